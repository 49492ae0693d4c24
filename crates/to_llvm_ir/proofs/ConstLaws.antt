-- What a constant operation becomes: a constant of the form, of the type of the operation's result, with its term.
use Rattle.std.proofs.Common.{◌≡◌, true, false, List, [], Option, Some, sym, ap, subst, ◌∙◌, refl}
use Rattle.std.specs.Prelude.{IfSome}
use Rattle.std.proofs.lemmas.Option.{same_Some}
use Rattle.llvm_core.specs.Data as L
use Rattle.llvm_core.specs.Data.{ConstTree, IntConst, filled_const, Operand}
use Rattle.llvm_core.specs.Form as F
use Rattle.dialect_types.specs.Trees.{NamedStruct, TypeTree}
use Rattle.const_attrs.specs.Trees.{AttrTree, type_of}
use Rattle.dialect_core.specs.declared.ops.Value.{Value}
use Rattle.dialect_core.specs.declared.ops.Successor.{Successor}
use Rattle.dialect_core.specs.Data.{DialectOp, Func, Kind, ConstantOp, FilledOp, RowOp, value_type}
use Rattle.dialect_core.specs.Rules.{IsOfKind, Typing}
use Rattle.dialect_core.specs.Form.{IsShortAttr, IsShortKind, IsRuledKind, is_constant_kind}
use Rattle.meaning.specs.Terms.{Term, filled_term, rename}
use Rattle.meaning.specs.Machine.{Holds}
use Rattle.meaning.specs.Setting.{Setting}
use Rattle.meaning.specs.Examples.{same_places}
use Rattle.meaning.specs.Llvm as llvm
use Rattle.meaning.specs.Dialect as dialect
use Rattle.meaning.specs.Dialect.{option_type}
use Rattle.meaning.proofs.EntryLaws.{type_stays}
use Rattle.meaning.proofs.TermLaws.{filled_under, term_stays}
use Rattle.to_llvm_ir.specs.Made.{const_of, constant_or}
use Rattle.to_llvm_ir.proofs.ElementLaws.{IsGood}
use Rattle.to_llvm_ir.proofs.AttrLaws.{filled_good, filled_same, good_const, same_const}

-- ---- the constant of an operation

-- that of a constant operation, with a result of that type; of any other operation it is not asked
abbrev pub constant_of : (result : Option TypeTree) → Kind → ConstTree
constant_of own (ConstantOp value) = const_of value
constant_of own (FilledOp fill) = filled_const fill (option_type own)
constant_of own (RowOp op) = IntConst 0 0

pub constant_is : (x : Operand) (own : Option TypeTree) (k : Kind) → is_constant_kind k ≡ true → constant_or x own k ≡ L.Constant (constant_of own k)
constant_is x own (ConstantOp value) e = refl
constant_is x own (FilledOp fill) e = refl
constant_is x own (RowOp op) e = absurd (let never : false ≡ true = e in cc)

pub other_is : (x : Operand) (own : Option TypeTree) (k : Kind) → is_constant_kind k ≡ false → constant_or x own k ≡ x
other_is x own (ConstantOp value) e = absurd (let never : true ≡ false = e in cc)
other_is x own (FilledOp fill) e = absurd (let never : true ≡ false = e in cc)
other_is x own (RowOp op) e = refl

-- it takes nothing and leads nowhere
pub constant_takes : (T : Typing) (g : Func) (vs : List Value) (own : Option TypeTree) (ss : List Successor) (k : Kind) → is_constant_kind k ≡ true → IsOfKind T g vs own ss k → (vs ≡ []) × (ss ≡ [])
constant_takes T g vs own ss (ConstantOp constant) e h = (h.bare, h.ends_here)
constant_takes T g vs own ss (FilledOp fill) e h = (h.bare, h.ends_here)
constant_takes T g vs own ss (RowOp op) e h = absurd (let never : false ≡ true = e in cc)

-- it has a result
pub constant_result : (T : Typing) (g : Func) (vs : List Value) (own : Option TypeTree) (ss : List Successor) (k : Kind) → is_constant_kind k ≡ true → IsOfKind T g vs own ss k → (t : TypeTree) × (own ≡ Some t)
constant_result T g vs own ss (ConstantOp constant) e h = (type_of constant, h.result)
constant_result T g vs own ss (FilledOp fill) e h = (h.type, h.result)
constant_result T g vs own ss (RowOp op) e h = absurd (let never : false ≡ true = e in cc)

-- ---- any constant

-- the constant that an operation holds keeps the rules, where some structs are those with a name
abbrev pub HasRuledKind : Kind → Type 0
HasRuledKind k = (structs : List NamedStruct) × IsRuledKind structs k

-- the attribute of an operation of the form is translated
pub short_attr : (T : Typing) (g : Func) (vs : List Value) (own : Option TypeTree) (ss : List Successor) (a : AttrTree) → IsOfKind T g vs own ss (ConstantOp a) → IfSome own (IsShortKind (ConstantOp a)) → IsShortAttr a
short_attr T g vs own ss a h short = subst (λ (o : Option TypeTree). IfSome o (IsShortKind (ConstantOp a))) h.result short

-- the constant of an operation is of the type of the result, in the one form, and short
pub constant_good : (T : Typing) (g : Func) (vs : List Value) (own : Option TypeTree) (ss : List Successor) (t : TypeTree) (k : Kind) → is_constant_kind k ≡ true → own ≡ Some t → IsOfKind T g vs own ss k → IfSome own (IsShortKind k)
    → (ruled : HasRuledKind k) → IsGood ruled.0 t (constant_of own k)
constant_good T g vs own ss t (ConstantOp a) e type h short ruled =
    subst (λ (u : TypeTree). IsGood ruled.0 u (const_of a)) (same_Some (type_of a) t (sym h.result ∙ type)) (good_const ruled.0 a ruled.1 (short_attr T g vs own ss a h short))
constant_good T g vs own ss t (FilledOp fill) e type h short ruled =
    subst (λ (o : Option TypeTree). IsGood ruled.0 t (filled_const fill (option_type o))) (sym type) (filled_good ruled.0 fill t (subst (λ (o : Option TypeTree). IfSome o (IsShortKind (FilledOp fill))) type short))
constant_good T g vs own ss t (RowOp op) e type h short ruled = absurd (let never : false ≡ true = e in cc)

-- it is short
pub constant_short : (T : Typing) (g : Func) (vs : List Value) (own : Option TypeTree) (ss : List Successor) (k : Kind) → is_constant_kind k ≡ true → IsOfKind T g vs own ss k → IfSome own (IsShortKind k) → HasRuledKind k → F.IsShortConst (constant_of own k)
constant_short T g vs own ss k e h short ruled = let t = constant_result T g vs own ss k e h in (constant_good T g vs own ss t.0 k e t.1 h short ruled).short

-- the operation holds the term of it
pub constant_holds : (setting back : Setting) (g : Func) (o : DialectOp) (k : Kind) → is_constant_kind k ≡ true → IsOfKind (value_type g) g o.operands o.result o.successors k → IfSome o.result (IsShortKind k) → HasRuledKind k
    → dialect.action setting g o k ≡ Holds (rename same_places (llvm.const_term back (constant_of o.result k)))
constant_holds setting back g o (ConstantOp a) e h short ruled =
    ap Holds (sym (term_stays same_places (λ n. refl) (llvm.const_term back (const_of a)) ∙ same_const ruled.0 setting back a ruled.1 (short_attr (value_type g) g o.operands o.result o.successors a h short)))
constant_holds setting back g o (FilledOp fill) e h short ruled =
    let t = option_type o.result in
    ap Holds (sym (ap (rename same_places) (filled_same back fill t) ∙ filled_under same_places fill t ∙ ap (filled_term fill) (type_stays t)))
constant_holds setting back g o (RowOp op) e h short ruled = absurd (let never : false ≡ true = e in cc)

-- an operation that holds a term is a constant
pub holds_constant : (setting : Setting) (g : Func) (o : DialectOp) (k : Kind) (t : Term) → dialect.action setting g o k ≡ Holds t → is_constant_kind k ≡ true
holds_constant setting g o (ConstantOp value) t e = refl
holds_constant setting g o (FilledOp fill) t e = refl
holds_constant setting g o (RowOp op) t e = absurd cc
