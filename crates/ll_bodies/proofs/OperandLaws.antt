-- What operands name.
use Rattle.std.proofs.Common.{◌≡◌, ◌<◌, Bool, true, false, nat_eq, if◌then◌else◌, List, Option, Some, None, Result, Ok, Err, length, refl, ap, sym, ◌∙◌, subst}
use Rattle.std.specs.Option.{option_map, ok_or}
use Rattle.std.specs.Prelude.{IfSome, IfOk}
use Rattle.std.proofs.lemmas.Option.{same_Some}
use Rattle.kinds.specs.Types.{TypeTree, same_tree}
use Rattle.support.proofs.ListLaws.{item_there}
use Rattle.llvm_core.specs.declared.numbers.LLVMType.{LLVMType}
use Rattle.llvm_core.specs.declared.numbers.LLVMConst.{LLVMConst}
use Rattle.llvm_core.specs.declared.code.LLVMValue.{LLVMValue}
use Rattle.llvm_core.specs.declared.code.LLVMValue.TheVariants as V
use Rattle.llvm_core.specs.Module.{Module}
use Rattle.llvm_core.specs.Sound.{IsModule}
use Rattle.llvm_core.specs.Parts.{value_type}
use Rattle.llvm_core.specs.Parts as P
use Rattle.llvm_core.specs.Data.{const_at, const_type, trees_of, operand_of}
use Rattle.llvm_core.proofs.DataLemmas.{const_type_of}
use Rattle.ll_lines.specs.Views.{IsTypeIn}
use Rattle.ll_bodies.specs.Scopes as spec
use Rattle.ll_bodies.specs.declared.build_err.BuildErr.{BuildErr}
use Rattle.ll_bodies.specs.declared.build_err.BuildErr.TheVariants.{NotYet}
use Rattle.ll_bodies.specs.declared.scope.Local.{Local}
use Rattle.ll_bodies.specs.declared.scope.Scope.{Scope}
use Rattle.ll_bodies.specs.ScopeViews.{IsKnown, Knows}
use Rattle.ll_bodies.specs.SourceViews.{IsLocalIn, IsScopeIn}
use Rattle.ll_bodies.proofs.TypeLaws.{tree, same_number}

-- ---- types

module _ (m : Module) (s : IsModule m) where
  by_test : (t : Bool) (v : LLVMValue) → (if t then Some (operand_of (trees_of m) v) else None) ≡ option_map (operand_of (trees_of m)) (if t then Some v else None)
  by_test true v = refl
  by_test false v = refl

  -- a value that is taken where its type is the same
  pub if_type : (v : LLVMValue) (own ty : LLVMType) (r : Option LLVMValue) → IsTypeIn m own → IsTypeIn m ty → r ≡ (if nat_eq own.0 ty.0 then Some v else None)
      → (if same_tree (tree m s own) (tree m s ty) then Some (operand_of (trees_of m) v) else None) ≡ option_map (operand_of (trees_of m)) r
  if_type v own ty r a b e =
      ap (λ t. if t then Some (operand_of (trees_of m) v) else None) (same_number m s own ty a b)
      ∙ by_test (nat_eq own.0 ty.0) v ∙ ap (option_map (operand_of (trees_of m))) (sym e)

  -- the type of a constant
  pub const_told : (c : LLVMConst) (own : LLVMType) → c.0 < length m.consts → value_type m (V.Const c) ≡ Some own → const_type (const_at (trees_of m).consts c) ≡ tree m s own
  const_told c own lt e =
      let k = item_there m.consts c.0 lt in
      let same : P.const_type k.0 ≡ own = same_Some (P.const_type k.0) own (sym (ap (option_map P.const_type) k.1) ∙ e) in
      const_type_of m c k.0 s k.1 ∙ ap (tree m s) same

-- ---- what is looked up

-- what stands in a scope has a type that is there
pub known_in : (m : Module) (scope : Scope) (o : Option Local) → IsScopeIn m scope → IfSome o (IsKnown scope) → IfSome o (IsLocalIn m)
known_in m scope None there known = tt
known_in m scope (Some x) there known = there.at known.0 x known.1

-- what is found is answered, and else the text is refused
module _ {A B : Type 0} (types : List TypeTree) (scope : Scope) (meant : spec.Scope → Option B) (made : A → B) (r : Result A BuildErr) where
  pub found_ok : (o : Option A) → r ≡ ok_or o NotYet → ((s : spec.Scope) → Knows types scope s → meant s ≡ option_map made o) → IfOk r (λ x. (s : spec.Scope) → Knows types scope s → meant s ≡ Some (made x))
  found_ok None is h = subst (λ (q : Result A BuildErr). IfOk q (λ x. (s : spec.Scope) → Knows types scope s → meant s ≡ Some (made x))) (sym is) tt
  found_ok (Some x) is h = subst (λ (q : Result A BuildErr). IfOk q (λ x. (s : spec.Scope) → Knows types scope s → meant s ≡ Some (made x))) (sym is) h

  pub found_not : (o : Option A) → r ≡ ok_or o NotYet → ((s : spec.Scope) → Knows types scope s → meant s ≡ option_map made o) → r ≡ Err NotYet → (s : spec.Scope) → Knows types scope s → meant s ≡ None
  found_not None is h e = h
  found_not (Some x) is h e = absurd (let no_error : Ok x ≡ Err NotYet = sym is ∙ e in cc (no_error))
