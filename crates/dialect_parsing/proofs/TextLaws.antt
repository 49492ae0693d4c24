-- The text that is printed of a type spells it.
use Rattle.std.proofs.Common.{◌≡◌, ◌≤◌, ◌<◌, ◌^◌, ℕ, Bool, true, false, List, [], ◌∷◌, ◌++◌, Option, Some, refl, sym, ap, ◌∙◌, append_assoc, arith}
use Rattle.std.proofs.lemmas.Bool.{cond-true}
use Rattle.std.proofs.lemmas.Bool.Decides.{nat_tests}
use Rattle.std.proofs.lemmas.List.{append-nil}
use Rattle.std.specs.Option.{option_map}
use Rattle.kinds.specs.Names.{is_digit}
use Rattle.std.specs.Prelude.{codes, decimal, nat_le, nat_lt, not, ◌&&◌}
use Rattle.kinds.specs.declared.types.Floating.TheVariants as F
use Rattle.kinds.specs.declared.types.Floating.{Floating}
use Rattle.dialect_types.specs.Text.{type_text, type_texts, joined, each_after, truth_text, floating_text}
use Rattle.kinds.specs.Types.{depth, shape}
use Rattle.kinds.specs.Fitting.{is_field, is_amx, is_made, is_array_of, is_vector_of}
use Rattle.kinds.specs.declared.fitting.Shape.{Shape}
use Rattle.kinds.specs.declared.types.VectorTypeKind.TheVariants as V
use Rattle.kinds.specs.declared.types.StructLayout.TheVariants as L
use Rattle.dialect_types.specs.Trees.{NamedStruct, TypeTree, VoidType, IntType, PointerType, FloatingType, RefusedType, ArrayType, VectorType, StructType, NamedType, FunctionType, TypeTrees, NoTypes, ThenType}
use Rattle.dialect_parsing.specs.declared.symbol.Symbol.{Symbol}
use Rattle.dialect_parsing.specs.declared.symbol.Symbol.TheVariants as S
use Rattle.dialect_parsing.specs.Spelling.{written, listed, others, IsOfDialect, AreOfDialect, Spells}
use Rattle.dialect_parsing.specs.Symbols.{symbol_of, symbols_of, with_first}
use Rattle.dialect_parsing.specs.Tokens.{Text, begins_run, is_run_byte, is_sign}
use Rattle.dialect_parsing.proofs.TokenLaws.{IsRun, run_said, sign_said}
use Rattle.dialect_parsing.proofs.NameTexts.{AreSpelled, found_identifier, name_is, name_run}
use Rattle.dialect_parsing.proofs.NumberTexts.{IsNumeral, numeral, digits_run, digit_run}

-- ---- a token before others

-- a run says its symbol where no byte of a run stands behind it
pub word : (b : ℕ) (r bs : Text) (s : Symbol) (ss : List Symbol) → symbol_of (b ∷ r) ≡ Some s → IsRun (b ∷ r) → begins_run bs ≡ false → symbols_of bs ≡ Some ss → symbols_of (b ∷ r ++ bs) ≡ Some (s ∷ ss)
word b r bs s ss is run ends h = run_said b r bs run ends ∙ ap (λ (x : Option Symbol). with_first x (symbols_of bs)) is ∙ ap (with_first (Some s)) h

pub sign : (b : ℕ) (bs : Text) (s : Symbol) (ss : List Symbol) → symbol_of (b ∷ []) ≡ Some s → is_run_byte b ≡ false → is_sign b ≡ true → symbols_of bs ≡ Some ss → symbols_of (b ∷ bs) ≡ Some (s ∷ ss)
sign b bs s ss is run mark h = sign_said b bs run mark ∙ ap (λ (x : Option Symbol). with_first x (symbols_of bs)) is ∙ ap (with_first (Some s)) h

-- a number in decimal
pub number_by : (n : ℕ) (bs : Text) (ss : List Symbol) → IsNumeral n → begins_run bs ≡ false → symbols_of bs ≡ Some ss → symbols_of (decimal n ++ bs) ≡ Some (S.Number n ∷ ss)
number_by n bs ss d ends h =
    let is : symbol_of (d.first ∷ d.others) ≡ Some (S.Number n) = cond-true (is_digit d.first) _ _ d.digit ∙ ap (option_map (λ (x : ℕ). S.Number x)) d.number in
    let run : IsRun (d.first ∷ d.others) = rw (digit_run d.first d.digit, digits_run d.others d.digits) refl in
    ap (λ (x : Text). symbols_of (x ++ bs)) d.text ∙ word d.first d.others bs (S.Number n) ss is run ends h

-- i and the number of bits
pub bits_by : (n : ℕ) (bs : Text) (ss : List Symbol) → IsNumeral n → begins_run bs ≡ false → symbols_of bs ≡ Some ss → symbols_of (105 ∷ decimal n ++ bs) ≡ Some (S.Bits n ∷ ss)
bits_by n bs ss d ends h =
    let is : symbol_of (105 ∷ d.first ∷ d.others) ≡ Some (S.Bits n) = ap (option_map (λ (x : ℕ). S.Bits x)) d.number in
    let run : IsRun (105 ∷ d.first ∷ d.others) = rw (digit_run d.first d.digit, digits_run d.others d.digits) refl in
    ap (λ (x : Text). symbols_of (105 ∷ x ++ bs)) d.text ∙ word 105 (d.first ∷ d.others) bs (S.Bits n) ss is run ends h

floating : (of : Floating) (bs : Text) (ss : List Symbol) → begins_run bs ≡ false → symbols_of bs ≡ Some ss → symbols_of (floating_text of ++ bs) ≡ Some (S.Floating of ∷ ss)
floating F.Half bs ss ends h = word 98 (codes "uiltin.fp16") bs _ ss refl refl ends h
floating F.BFloat bs ss ends h = word 98 (codes "uiltin.bf16") bs _ ss refl refl ends h
floating F.Float bs ss ends h = word 98 (codes "uiltin.fp32") bs _ ss refl refl ends h
floating F.Double bs ss ends h = word 98 (codes "uiltin.fp64") bs _ ss refl refl ends h

truth : (v : Bool) (bs : Text) (ss : List Symbol) → begins_run bs ≡ false → symbols_of bs ≡ Some ss → symbols_of (truth_text v ++ bs) ≡ Some (S.Truth v ∷ ss)
truth true bs ss ends h = word 116 (codes "rue") bs _ ss refl refl ends h
truth false bs ss ends h = word 102 (codes "alse") bs _ ss refl refl ends h

-- ---- the text of a type before others

-- what stands behind the parameters of a function type
func_end : (v : Bool) (bs : Text) (ss : List Symbol) → symbols_of bs ≡ Some ss → symbols_of (codes ") variadic = " ++ (truth_text v ++ (codes ">" ++ bs))) ≡ Some (S.CloseParen ∷ S.Variadic ∷ S.Equals ∷ S.Truth v ∷ S.Greater ∷ ss)
func_end v bs ss h =
    let a = sign 62 bs S.Greater ss refl refl refl h in
    let b = truth v (62 ∷ bs) _ refl a in
    let c = sign 61 (32 ∷ truth_text v ++ (62 ∷ bs)) S.Equals _ refl refl refl b in
    let d = word 118 (codes "ariadic") (codes " = " ++ (truth_text v ++ (62 ∷ bs))) S.Variadic _ refl refl refl c in
    sign 41 (codes " variadic = " ++ (truth_text v ++ (62 ∷ bs))) S.CloseParen _ refl refl refl d

-- no run goes on where texts follow, each after a comma
pub after_ends : (xs : List Text) (bs : Text) → begins_run bs ≡ false → begins_run (each_after xs ++ bs) ≡ false
after_ends [] bs h = h
after_ends (x ∷ xs) bs h = refl

regroup : (a b c d e f g bs : Text) → (a ++ b ++ c ++ d ++ e ++ f ++ g) ++ bs ≡ a ++ (b ++ (c ++ (d ++ (e ++ (f ++ (g ++ bs))))))
regroup a b c d e f g bs = simp append_assoc

counted_regroup : (a b d bs : Text) → (a ++ b ++ codes " x " ++ d ++ codes "]") ++ bs ≡ a ++ (b ++ (codes " x " ++ (d ++ (codes "]" ++ bs))))
counted_regroup a b d bs = simp append_assoc

-- behind its head, what is so many of one type
abbrev count_text : ℕ → Text → Text → Text
count_text n element bs = decimal n ++ (codes " x " ++ (element ++ (codes "]" ++ bs)))

counted_said : (n : ℕ) (element bs : Text) (es : List Symbol) → n < 2 ^ 64 → symbols_of (element ++ (codes "]" ++ bs)) ≡ Some es → symbols_of (count_text n element bs) ≡ Some (S.Number n ∷ S.Times ∷ es)
counted_said n element bs es small h =
    let times = word 120 [] (32 ∷ element ++ (93 ∷ bs)) S.Times es refl refl refl h in
    number_by n (codes " x " ++ (element ++ (93 ∷ bs))) _ (numeral n small) refl times

struct_regroup : (a b bs : Text) → (a ++ b ++ codes "}>") ++ bs ≡ a ++ (b ++ (codes "}>" ++ bs))
struct_regroup a b bs = simp append_assoc

-- behind its head, a struct
abbrev fields_text : TypeTrees → Text → Text
fields_text ts bs = 123 ∷ joined (type_texts ts) ++ (codes "}>" ++ bs)

fields_end : (bs : Text) (ss : List Symbol) → symbols_of bs ≡ Some ss → symbols_of (codes "}>" ++ bs) ≡ Some (S.CloseBrace ∷ S.Greater ∷ ss)
fields_end bs ss h = sign 125 (62 ∷ bs) S.CloseBrace _ refl refl refl (sign 62 bs S.Greater ss refl refl refl h)

first_of : (a b c : Bool) → (a && b && c) ≡ true → a ≡ true
first_of true b c h = refl
first_of false b c h = cc

second_of : (a b c d : Bool) → (a && b && c && d) ≡ true → b ≡ true
second_of true true c d h = refl
second_of true false c d h = cc
second_of false b c d h = cc

count_small : (n : ℕ) (s : Shape) → is_array_of n s ≡ true → n < 2 ^ 64
count_small n s h = let small = first_of (nat_lt n (2 ^ 64)) (is_field s) (not (is_amx s)) h in grind (arith, nat_tests)

lanes_small : (n : ℕ) (s : Shape) → is_vector_of n s ≡ true → n < 2 ^ 64
lanes_small n s h = let small = second_of (nat_le 1 n) (nat_lt n (2 ^ 32)) (is_array_of n s) (not (is_made s)) h in grind (arith, nat_tests)

module _ (structs : List NamedStruct) (spelled : AreSpelled structs) where
  mutual
    pub type_said : (t : TypeTree) → IsOfDialect structs t → (bs : Text) (ss : List Symbol) → begins_run bs ≡ false → symbols_of bs ≡ Some ss → symbols_of (type_text t ++ bs) ≡ Some (written t ss)
    type_said VoidType fine bs ss ends h = word 108 (codes "lvm.void") bs S.Void ss refl refl ends h
    type_said (IntType w) fine bs ss ends h =
        let least = fine.0 in
        let most = fine.1 in
        let bits = bits_by w bs ss (numeral w (omega arith)) ends h in
        word 98 (codes "uiltin.integer") (32 ∷ 105 ∷ decimal w ++ bs) S.Integer _ refl refl refl bits
    type_said (PointerType n) fine bs ss ends h =
        let close = sign 41 bs S.CloseParen ss refl refl refl h in
        let number = number_by n (41 ∷ bs) _ (numeral n (omega arith)) refl close in
        let open_ = sign 40 (decimal n ++ (41 ∷ bs)) S.OpenParen _ refl refl refl number in
        ap symbols_of (ap (λ (x : Text). codes "llvm.ptr (" ++ x) (append_assoc (decimal n) (codes ")") bs))
        ∙ word 108 (codes "lvm.ptr") (32 ∷ 40 ∷ decimal n ++ (41 ∷ bs)) S.Pointer _ refl refl refl open_
    type_said (FloatingType of) fine bs ss ends h = floating of bs ss ends h
    type_said (RefusedType of) fine bs ss ends h = absurd fine
    type_said (ArrayType n t) fine bs ss ends h =
        let count = counted_said n (type_text t) bs _ (count_small n (shape t) fine.0) (type_said t fine.1 (93 ∷ bs) _ refl (sign 93 bs S.CloseBracket ss refl refl refl h)) in
        let open_ = sign 91 (count_text n (type_text t) bs) S.OpenBracket _ refl refl refl count in
        ap symbols_of (counted_regroup (codes "llvm.array [") (decimal n) (type_text t) bs)
        ∙ word 108 (codes "lvm.array") (32 ∷ 91 ∷ count_text n (type_text t) bs) S.Array _ refl refl refl open_
    type_said (VectorType V.Fixed n t) fine bs ss ends h =
        let count = counted_said n (type_text t) bs _ (lanes_small n (shape t) fine.0) (type_said t fine.1 (93 ∷ bs) _ refl (sign 93 bs S.CloseBracket ss refl refl refl h)) in
        let open_ = sign 91 (count_text n (type_text t) bs) S.OpenBracket _ refl refl refl count in
        ap symbols_of (counted_regroup (codes "llvm.vector [") (decimal n) (type_text t) bs)
        ∙ word 108 (codes "lvm.vector") (32 ∷ 91 ∷ count_text n (type_text t) bs) S.Vector _ refl refl refl open_
    type_said (VectorType V.Scalable n t) fine bs ss ends h =
        let count = counted_said n (type_text t) bs _ (lanes_small n (shape t) fine.0) (type_said t fine.1 (93 ∷ bs) _ refl (sign 93 bs S.CloseBracket ss refl refl refl h)) in
        let scale = word 118 (codes "scale") (32 ∷ count_text n (type_text t) bs) S.Vscale _ refl refl refl count in
        let open_ = sign 91 (codes "vscale " ++ count_text n (type_text t) bs) S.OpenBracket _ refl refl refl scale in
        ap symbols_of (counted_regroup (codes "llvm.vector [vscale ") (decimal n) (type_text t) bs)
        ∙ word 108 (codes "lvm.vector") (codes " [vscale " ++ count_text n (type_text t) bs) S.Vector _ refl refl refl open_
    type_said (StructType L.Unpacked ts) fine bs ss ends h =
        let fields = sign 123 (joined (type_texts ts) ++ (codes "}>" ++ bs)) S.OpenBrace _ refl refl refl (params_said ts fine.1 (codes "}>" ++ bs) _ refl (fields_end bs ss h)) in
        let less = sign 60 (fields_text ts bs) S.Less _ refl refl refl fields in
        ap symbols_of (struct_regroup (codes "llvm.struct <{") (joined (type_texts ts)) bs)
        ∙ word 108 (codes "lvm.struct") (32 ∷ 60 ∷ fields_text ts bs) S.Struct _ refl refl refl less
    type_said (StructType L.Packed ts) fine bs ss ends h =
        let fields = sign 123 (joined (type_texts ts) ++ (codes "}>" ++ bs)) S.OpenBrace _ refl refl refl (params_said ts fine.1 (codes "}>" ++ bs) _ refl (fields_end bs ss h)) in
        let packed = word 112 (codes "acked") (32 ∷ fields_text ts bs) S.Packed _ refl refl refl fields in
        let less = sign 60 (codes "packed " ++ fields_text ts bs) S.Less _ refl refl refl packed in
        ap symbols_of (struct_regroup (codes "llvm.struct <packed {") (joined (type_texts ts)) bs)
        ∙ word 108 (codes "lvm.struct") (codes " <packed " ++ fields_text ts bs) S.Struct _ refl refl refl less
    type_said (NamedType name) fine bs ss ends h =
        let id = found_identifier structs spelled name fine.0 fine.1 in
        let close = sign 62 bs S.Greater ss refl refl refl h in
        let said = word 64 name (62 ∷ bs) (S.Name name) _ (name_is name id) (name_run name id) refl close in
        let less = sign 60 (64 ∷ name ++ (62 ∷ bs)) S.Less _ refl refl refl said in
        ap symbols_of (ap (λ (x : Text). codes "llvm.struct <@" ++ x) (append_assoc name (codes ">") bs))
        ∙ word 108 (codes "lvm.struct") (32 ∷ 60 ∷ 64 ∷ name ++ (62 ∷ bs)) S.Struct _ refl refl refl less
    type_said (FunctionType r ps v) fine bs ss ends h =
        let end = codes ") variadic = " ++ (truth_text v ++ (codes ">" ++ bs)) in
        let params = params_said ps fine.1 end _ refl (func_end v bs ss h) in
        let parens = sign 40 (joined (type_texts ps) ++ end) S.OpenParen _ refl refl refl params in
        let result = type_said r fine.0 (32 ∷ 40 ∷ joined (type_texts ps) ++ end) _ refl parens in
        let less = sign 60 (type_text r ++ (32 ∷ 40 ∷ joined (type_texts ps) ++ end)) S.Less _ refl refl refl result in
        ap symbols_of (regroup (codes "llvm.func <") (type_text r) (codes " (") (joined (type_texts ps)) (codes ") variadic = ") (truth_text v) (codes ">") bs)
        ∙ word 108 (codes "lvm.func") (32 ∷ 60 ∷ type_text r ++ (32 ∷ 40 ∷ joined (type_texts ps) ++ end)) S.Func _ refl refl refl less

    params_said : (ts : TypeTrees) → AreOfDialect structs ts → (bs : Text) (ss : List Symbol) → begins_run bs ≡ false → symbols_of bs ≡ Some ss → symbols_of (joined (type_texts ts) ++ bs) ≡ Some (listed ts ss)
    params_said NoTypes fine bs ss ends h = h
    params_said (ThenType t ts) fine bs ss ends h =
        ap symbols_of (append_assoc (type_text t) (each_after (type_texts ts)) bs)
        ∙ type_said t fine.0 (each_after (type_texts ts) ++ bs) _ (after_ends (type_texts ts) bs ends) (others_said ts fine.1 bs ss ends h)

    others_said : (ts : TypeTrees) → AreOfDialect structs ts → (bs : Text) (ss : List Symbol) → begins_run bs ≡ false → symbols_of bs ≡ Some ss → symbols_of (each_after (type_texts ts) ++ bs) ≡ Some (others ts ss)
    others_said NoTypes fine bs ss ends h = h
    others_said (ThenType t ts) fine bs ss ends h =
        let more = type_said t fine.0 (each_after (type_texts ts) ++ bs) _ (after_ends (type_texts ts) bs ends) (others_said ts fine.1 bs ss ends h) in
        ap symbols_of (ap (λ (x : Text). 44 ∷ 32 ∷ x) (append_assoc (type_text t) (each_after (type_texts ts)) bs))
        ∙ sign 44 (32 ∷ type_text t ++ (each_after (type_texts ts) ++ bs)) S.Comma _ refl refl refl more

  pub text_spells : (t : TypeTree) → IsOfDialect structs t → depth t ≤ 1000 → Spells structs (type_text t) t
  text_spells t fine fits = (ap symbols_of (sym (append-nil (type_text t))) ∙ type_said t fine [] [] refl refl, fine, fits)
