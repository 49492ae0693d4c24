-- What the tokens of values say.
use Rattle.std.proofs.Common.{◌≡◌, ℕ, List, [], ◌∷◌, ◌++◌, Option, Some, None, codes, append_assoc, refl, sym, ap, subst, ◌∙◌}
use Rattle.std.specs.Option.{option_map}
use Rattle.std.proofs.lemmas.List.{append-nil}
use Rattle.kinds.specs.Types.{TypeTree}
use Rattle.kinds.specs.Held.{IsFirstClass}
use Rattle.ll_lines.specs.Lines as L
use Rattle.ll_lines.specs.Lines.{Said, Typed}
use Rattle.ll_literals.specs.Chain.{◌>>=◌}
use Rattle.ll_spacing.specs.Spacing.{Spaced}
use Rattle.ll_values.specs.Values.{Value, LiteralV, TypedV, PairV, Literal, LocalL, said, typed}
use Rattle.ll_written.specs.Rules as N
use Rattle.ll_written.specs.Written.{written_type, written_said, written_typed, next_said, written_operands, written_returned, written_to}
use Rattle.ll_written.specs.Writable.{IsSaidOf, IsTyped}
use Rattle.ll_written.proofs.Productions as P
use Rattle.ll_written.proofs.Productions.{Reads}
use Rattle.ll_written.proofs.ConstSays.{const_literal, const_again, value_reads, const_says}
use Rattle.ll_written.proofs.TypeTokens.{type_says, solid_says}

-- a value as it is written
abbrev pub literal_of : Said → Literal
literal_of (L.Local t) = LocalL t
literal_of (L.Const c) = const_literal c

-- ---- values

pub said_says : (τ : TypeTree) (s : Said) → IsSaidOf τ s → Reads N.value (LiteralV (literal_of s)) (written_said s)
said_says τ (L.Local t) fits = P.value_local (codes " ") t refl
said_says τ (L.Const c) fits = const_says N.value value_reads τ c fits

-- what a value is written as says the value at its type
pub said_again : (τ : TypeTree) (s : Said) → IsFirstClass τ → IsSaidOf τ s → said τ (literal_of s) ≡ Some s
said_again τ (L.Local t) type fits = refl
said_again τ (L.Const c) type fits = const_again τ c type fits

pub typed_again : (x : Typed) → IsTyped x → typed x.type (literal_of x.said) ≡ Some x
typed_again x h = ap (λ (o : Option Said). o >>= λ s. Some (record { type = x.type; said = s })) (said_again x.type x.said h.type.type h.said)

pub typed_says : (x : Typed) → IsTyped x → Reads N.typed (TypedV x) (written_typed x)
typed_says x h = P.typed (type_says (codes " ") x.type h.type) (said_says x.type x.said h.said) (ap (option_map TypedV) (typed_again x h))

-- ---- operands

-- with nothing behind
pub alone : {r : ℕ} {v : Value} {xs : List Spaced} → Reads r v xs → Reads r v (xs ++ [])
alone {r} {v} {xs} h = subst (λ (ys : List Spaced). Reads r v ys) (sym (append-nil xs)) h

pub operand_says : (x : Typed) → IsTyped x → Reads N.typed (TypedV x) (written_operands (x ∷ []))
operand_says x h = alone (typed_says x h)

pub returned_says : (x : Typed) → IsTyped x → Reads N.ret (TypedV x) (written_returned (x ∷ []))
returned_says x h = alone (P.ret_typed (solid_says (codes " ") x.type h.type) (said_says x.type x.said h.said) (ap (option_map TypedV) (typed_again x h)))

pub pair_says : (x y : Typed) → IsTyped x → IsTyped y → y.type ≡ x.type → Reads N.pair (PairV x y) (written_operands (x ∷ y ∷ []) ++ written_to None)
pair_says x y h k same =
    let two : typed x.type (literal_of y.said) ≡ Some y = rw (← same) (typed_again y k) in
    let both : (typed x.type (literal_of x.said) >>= λ a. typed x.type (literal_of y.said) >>= λ b. Some (PairV a b)) ≡ Some (PairV x y) = rw (typed_again x h, two) refl in
    let front = written_type (codes " ") x.type in
    let tokens : front ++ (written_said x.said ++ next_said y) ≡ written_operands (x ∷ y ∷ []) ++ written_to None =
    sym (append_assoc front (written_said x.said) (next_said y)) ∙ ap (λ (ys : List Spaced). (front ++ written_said x.said) ++ ys) (sym (append-nil (next_said y))) ∙ sym (append-nil (written_operands (x ∷ y ∷ []))) in
    subst (λ (xs : List Spaced). Reads N.pair (PairV x y) xs) tokens (P.pair [] (type_says (codes " ") x.type h.type) (said_says x.type x.said h.said) (said_says y.type y.said k.said) both)
