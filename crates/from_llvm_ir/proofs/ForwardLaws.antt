-- Refusals of values that are not known yet.
use Rattle.std.proofs.Common.{ℕ, ◌≡◌, ◌<◌, sym, ap, subst, ◌∙◌, List, [], ◌∷◌, None, Some, length, map, slice_get}
use Rattle.std.specs.List.{flat_map}
use Rattle.std.specs.Option.{option_map}
use Rattle.std.specs.Prelude as R
use Rattle.std.specs.Result.{IfErr, IsErrAnd}
use Rattle.std.proofs.lemmas.Result.{err_from_is_err_and}
use Rattle.std.proofs.lemmas.Option.{slice_get-map, same_Some}
use Rattle.support.proofs.ListLaws.{item_there}
use Rattle.llvm_core.specs.declared.numbers.LLVMBasicBlock.{LLVMBasicBlock}
use Rattle.llvm_core.specs.declared.numbers.LLVMInstRef.{LLVMInstRef}
use Rattle.llvm_core.specs.declared.code.InstData.{InstData}
use Rattle.llvm_core.specs.declared.code.LLVMValue.{LLVMValue}
use Rattle.llvm_core.specs.declared.code.LLVMValue.TheVariants as K
use Rattle.llvm_core.specs.Module.{Module}
use Rattle.llvm_core.specs.Data as L
use Rattle.llvm_core.specs.Data.{trees_of, operand_of}
use Rattle.from_consts.specs.declared.conversion_err.ConversionErr.{ConversionErr}
use Rattle.from_consts.specs.declared.conversion_err.ConversionErr.TheVariants as E
use Rattle.from_llvm_ir.specs.declared.values.Values.{Values}
use Rattle.from_llvm_ir.specs.Imported.{IsIn}
use Rattle.from_llvm_ir.specs.Values.{value_at, IsForward, IsRefusalOf}
use Rattle.from_llvm_ir.proofs.PlaceLaws.{flat_at}

-- among more operands
pub forward_more : (m : Module) (values : Values) (os us : List L.Operand) (e : ConversionErr) → ((o : L.Operand) → IsIn os o → IsIn us o) → IsForward m values os e → IsForward m values us e
forward_more m values os us (E.UndefinedValue name v) k h = record { inst = h.inst; value = h.value; row = h.row; at = h.at; named = h.named; used = k (L.Result h.inst.0) h.used; unknown = h.unknown }
forward_more m values os us (E.IntConstTooWide width) k h = h
forward_more m values os us (E.Unsupported u) k h = h
forward_more m values os us (E.Struct s) k h = h
forward_more m values os us E.NoMemory k h = tt

only_one : (o p : L.Operand) → IsIn (o ∷ []) p → o ≡ p
only_one o p (ℕ.zero, at) = same_Some o p at
only_one o p (ℕ.suc i, at) = absurd (let no : ⊥ = cc in no)

-- the refusal of a result for which no value was noted
pub forward_unknown : (m : Module) (values : Values) (v : LLVMValue) (i : LLVMInstRef) (e : ConversionErr) → v ≡ K.Inst i → value_at values v ≡ None → i.0 < length m.insts → IsRefusalOf m i e → IsForward m values (operand_of (trees_of m) v ∷ []) e
forward_unknown m values v i (E.UndefinedValue name w) is unknown within h =
    let row = item_there m.insts i.0 within in
    record {
      inst = i;
      value = h.0;
      row = row.0;
      at = row.1;
      named = same_Some name row.0.name (sym h.1 ∙ ap (option_map (λ (x : InstData). x.name)) row.1);
      used = (0, ap (λ (u : LLVMValue). Some (operand_of (trees_of m) u)) is);
      unknown = ap (value_at values) (h.0 ∙ sym is) ∙ unknown;
    }
forward_unknown m values v i (E.IntConstTooWide width) is unknown within h = h
forward_unknown m values v i (E.Unsupported u) is unknown within h = h
forward_unknown m values v i (E.Struct s) is unknown within h = h
forward_unknown m values v i E.NoMemory is unknown within h = tt

-- a value of a list
pub forward_at : (m : Module) (values : Values) (vs : List LLVMValue) (i : ℕ) (v : LLVMValue) (e : ConversionErr) → slice_get vs i ≡ Some v → IsForward m values (operand_of (trees_of m) v ∷ []) e → IsForward m values (map (operand_of (trees_of m)) vs) e
forward_at m values vs i v e at h =
    forward_more m values (operand_of (trees_of m) v ∷ []) (map (operand_of (trees_of m)) vs) e
    (λ o is_in. (i, slice_get-map (operand_of (trees_of m)) vs i ∙ ap (option_map (operand_of (trees_of m))) at ∙ ap Some (only_one (operand_of (trees_of m) v) o is_in))) h

-- a target of a list
pub forward_flat : (m : Module) (values : Values) (f : ℕ → List L.Operand) (ts : List LLVMBasicBlock) (i : ℕ) (t : LLVMBasicBlock) (e : ConversionErr) → slice_get ts i ≡ Some t → IsForward m values (f t.0) e → IsForward m values (flat_map f (map (λ (x : LLVMBasicBlock). x.0) ts)) e
forward_flat m values f ts i t e at h =
    forward_more m values (f t.0) (flat_map f (map (λ (x : LLVMBasicBlock). x.0) ts)) e
    (λ o is_in. flat_at f (map (λ (x : LLVMBasicBlock). x.0) ts) i t.0 is_in.0 o (slice_get-map (λ (x : LLVMBasicBlock). x.0) ts i ∙ ap (option_map (λ (x : LLVMBasicBlock). x.0)) at) is_in.1) h
