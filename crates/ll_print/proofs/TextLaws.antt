-- What is printed of a part of a module is the text of that part's data.
use Rattle.std.proofs.Common.{◌≡◌, ◌<◌, ◌≤◌, ◌+◌, ℕ, Bool, List, ◌++◌, codes, length, take, get_or, slice_get, Some, ap, sym, ◌∙◌, subst}
use Rattle.std.specs.Prelude.{OnOk, Result, Ok, Err, if◌then◌else◌}
use Rattle.std.specs.Result.{is_ok}
use Rattle.std.specs.declared.alloc.AllocError.{AllocError}
use Rattle.std.specs.List.{flat_map}
use Rattle.std.specs.Option.{option_map}
use Rattle.std.proofs.lemmas.List.{take_all}
use Rattle.std.proofs.lemmas.Result.{on_ok_weaker}
use Rattle.support.proofs.ListLaws.{flat_map-take_more, appended_twice}
use Rattle.llvm_core.specs.declared.numbers.LLVMType.{LLVMType}
use Rattle.llvm_core.specs.declared.numbers.LLVMConst.{LLVMConst}
use Rattle.llvm_core.specs.declared.types.LLVMTypeKind.{LLVMTypeKind}
use Rattle.llvm_core.specs.declared.types.LLVMTypeKind.TheVariants as T
use Rattle.llvm_core.specs.Module.{Module}
use Rattle.llvm_core.specs.Sound.{IsModule}
use Rattle.llvm_core.specs.Parts.{shape_of, const_type as kind_type}
use Rattle.llvm_core.specs.Data.{TypeTree, type_at, type_tree, const_at, trees_of, const_type}
use Rattle.kinds.specs.declared.fill.Fill.TheVariants as Z
use Rattle.kinds.specs.Fitting.{is_pointer}
use Rattle.kinds.specs.Types.{shape}
use Rattle.kinds.specs.Held.{width_in}
use Rattle.llvm_core.proofs.RuleLaws.{shape_kept}
use Rattle.llvm_core.proofs.DataLemmas.{type_tree_of, int_tree_of, const_type_of}
use Rattle.ll_print.specs.Printing.{type_text, int_text, filled_text}
use Rattle.ll_print.proofs.PartLaws.{read_item}

-- the same text under another name
pub put_is : (old new text same : List ℕ) → new ≡ old ++ text → same ≡ text → new ≡ old ++ same
put_is old new text same e f = rw f e

-- the same text under another name, where the call was Ok
pub ok_is : (r : Result (Unit {0}) AllocError) (old new text same : List ℕ) → OnOk r (new ≡ old ++ text) → same ≡ text → OnOk r (new ≡ old ++ same)
ok_is r old new text same h is = subst (λ (t : List ℕ). OnOk r (new ≡ old ++ t)) (sym is) h

-- what a slice adds, where the call was Ok
pub ok_extended : (r : Result (Unit {0}) AllocError) (old new more : List ℕ) → new ≡ (if is_ok r then old ++ more else old) → OnOk r (new ≡ old ++ more)
ok_extended (Ok x) old new more e = e
ok_extended (Err x) old new more e = tt

-- two pieces, where the call that puts the second was Ok
pub ok_two : (r : Result (Unit {0}) AllocError) (old mid new a b : List ℕ) → mid ≡ old ++ a → OnOk r (new ≡ mid ++ b) → OnOk r (new ≡ old ++ (a ++ b))
ok_two r old mid new a b e h = on_ok_weaker r (appended_twice old mid new a b e) h

-- one item of a list further
pub items_put : {X : Type 0} (g : X → List ℕ) (xs : List X) (i : ℕ) (d : X) (old now new : List ℕ) → i < length xs → now ≡ old ++ flat_map g (take i xs) → new ≡ now ++ g (get_or xs i d) → new ≡ old ++ flat_map g (take (i + 1) xs)
items_put g xs i d old now new within e f = put_is old new _ _ (appended_twice old now new (flat_map g (take i xs)) (g (get_or xs i d)) e f) (flat_map-take_more g xs i d within)

-- all of them
pub items_all : {X : Type 0} (g : X → List ℕ) (xs : List X) (i : ℕ) (old new : List ℕ) → length xs ≤ i → new ≡ old ++ flat_map g (take i xs) → new ≡ old ++ flat_map g xs
items_all {X} g xs i old new all e = e ∙ ap (λ (ys : List X). old ++ flat_map g ys) (take_all i xs all)

-- the text of a type is that of its kind
pub type_text-kind : (m : Module) (t : LLVMType) (k : LLVMTypeKind) → IsModule m → slice_get m.types t.0 ≡ Some k → type_text (type_at (trees_of m).types t) ≡ type_text (type_tree (trees_of m).types k)
type_text-kind m t k s at = ap type_text (type_tree_of m t k s at)

-- the text of an integer is that of its value at its width
pub int_text-width : (m : Module) (t : LLVMType) (width value : ℕ) → IsModule m → slice_get m.types t.0 ≡ Some (T.Int width) → int_text (width_in (type_at (trees_of m).types t)) value ≡ int_text width value
int_text-width m t width value s typed = ap (λ (ty : TypeTree). int_text (width_in ty) value) (int_tree_of m t width s typed)

-- the word of zero goes by what kind the type is of
pub filled_text-zero : (m : Module) (t : LLVMType) (k : LLVMTypeKind) (pointer : Bool) → IsModule m → slice_get m.types t.0 ≡ Some k → pointer ≡ is_pointer (shape_of k)
    → (if pointer then codes "null" else codes "zeroinitializer") ≡ filled_text Z.Zero (type_at (trees_of m).types t)
filled_text-zero m t k pointer s at is =
    let told : pointer ≡ is_pointer (shape (type_at (trees_of m).types t)) = is ∙ ap is_pointer (shape_kept (trees_of m).types k ∙ ap shape (sym (type_tree_of m t k s at))) in
    ap (λ (b : Bool). if b then codes "null" else codes "zeroinitializer") told

-- the type of a constant that is read
pub const_type-at : (m : Module) (c : LLVMConst) (t : LLVMType) → IsModule m → option_map kind_type (slice_get m.consts c.0) ≡ Some t → const_type (const_at (trees_of m).consts c) ≡ type_at (trees_of m).types t
const_type-at m c t s e = let k = read_item kind_type m.consts c.0 t e in const_type_of m c k.0 s k.1 ∙ ap (type_at (trees_of m).types) k.2
