-- What the example modules of both sides share.
use Rattle.std.proofs.Common.{ℕ, zero, suc, ◌≡◌, refl, List, [], ◌∷◌, map, codes}
use Rattle.meaning.specs.Code.{SameCode, IsOneToOne, IsDistinctNames, under}
use Rattle.meaning.specs.Machine.{Item}
use Rattle.meaning.specs.Llvm as llvm
use Rattle.meaning.specs.Dialect as dialect
use Rattle.meaning.specs.Examples.{answer, answer_dialect, same_places, answer_function, answer_func}
use Rattle.meaning.proofs.CodeLaws.{same_code}

one_name : (x : List ℕ) → IsDistinctNames (x ∷ [])
one_name x zero zero n h k = refl
one_name x zero (suc j) n h k = cc
one_name x (suc i) j n h k = cc

one_to_one : (n : ℕ) → IsOneToOne (λ b. b) n n
one_to_one n = record { onto = λ j small. (j, small, refl); within = λ i small. small; apart = λ i j si sj e. e }

abbrev f_name : List ℕ
f_name = codes "f"

abbrev llvm_trace : List ℕ → List Item
llvm_trace choices = (llvm.body (llvm.setting_of answer) answer_function).trace choices

abbrev dialect_trace : List ℕ → List Item
dialect_trace choices = (dialect.body (dialect.setting_of answer_dialect) answer_func).trace choices

traces : (choices : List ℕ) →
    map (under same_places f_name) (llvm_trace choices) ≡ dialect_trace choices
traces [] = refl
traces (c ∷ cs) = refl

pub same_answer : SameCode same_places (llvm.code_of answer) (dialect.code_of answer_dialect)
same_answer =
    same_code same_places (llvm.code_of answer) (dialect.code_of answer_dialect) (one_name _) (
      record { name = refl; entry = record { symbol = refl; body = record { blocks = one_to_one 1; traces = traces } } },
      tt,
    )
