-- A dialect module as the import builds it, step by step.
use Rattle.std.proofs.Common.{ℕ, ◌≡◌, ◌<◌, ◌≤◌, ◌+◌, inl, refl, sym, ap, subst, ◌∙◌, List, [], ◌∷◌, ◌++◌, Option, Some, None, All, length, map, slice_get, nat_eq, Bool, true, false, if◌then◌else◌, arith, length-append}
use Rattle.std.specs.Option.{option_map, option_map_or, option_and_then}
use Rattle.std.proofs.lemmas.List.Elements.{All-nil, All-push, All-map, All-weaker}
use Rattle.std.proofs.lemmas.Bool.{eqb-true}
use Rattle.dialect_core.proofs.ContextLemmas.{kind_there}
use Rattle.support.proofs.ListLaws.{slice_get-before, length-with_change}
use Rattle.support.specs.Changes.{with_change}
use Rattle.dialect_types.specs.declared.types.TypeHandle.{TypeHandle}
use Rattle.dialect_types.specs.Trees.{type_at, type_trees}
use Rattle.dialect_core.specs.declared.numbers.OpRef.{OpRef}
use Rattle.dialect_core.specs.declared.numbers.BlockRef.{BlockRef}
use Rattle.dialect_core.specs.declared.ops.OpKind.{OpKind}
use Rattle.dialect_core.specs.declared.ops.OpKind.TheVariants as K
use Rattle.dialect_core.specs.declared.ops.OpData.{OpData}
use Rattle.dialect_core.specs.declared.ops.BlockData.{BlockData}
use Rattle.dialect_core.specs.ContextData.{ContextData, with_op, with_appended, with_block, kind_at, region_at, HoldsMore}
use Rattle.dialect_core.specs.Data.{DialectModule, Func, DialectBlock, data_of, func_of, func_in, more_block, with_func, with_func_block}
use Rattle.dialect_core.specs.Lists.{list_at}
use Rattle.dialect_core.proofs.ListLemmas.{slice_get-last}
use Rattle.dialect_core.proofs.FilterLemmas.{change_get}
use Rattle.from_llvm_ir.specs.Imported.{HasFuncsApart, IsModuleAt, IsOwn, IsBuilding, IsBelow}
use Rattle.from_llvm_ir.specs.Building.{bare_func, func_data}
use Rattle.from_llvm_ir.proofs.ApartLaws.{op_apart, func_apart, block_apart}
use Rattle.from_llvm_ir.proofs.OwnLaws.{own_op, own_appended, own_block}

pub length-push : {X : Type 0} (xs : List X) (x : X) → length (xs ++ x ∷ []) ≡ length xs + 1
length-push xs x = length-append xs (x ∷ [])

-- an operation that is there stays where it is
still : (ops : List OpData) (x : OpData) (i : ℕ) → i < length ops → slice_get (ops ++ x ∷ []) i ≡ slice_get ops i
still ops x i small = slice_get-before ops (x ∷ []) i small

pub holder_kept : (ops : List OpData) (x : OpData) (v : Option BlockData) (k : OpKind) → option_and_then (λ (b : BlockData). kind_at ops b.holder) v ≡ Some k → option_and_then (λ (b : BlockData). kind_at (ops ++ x ∷ []) b.holder) v ≡ Some k
holder_kept ops x None k h = h
holder_kept ops x (Some b) k h = ap (option_map (λ (y : OpData). y.kind)) (still ops x b.holder.0 (kind_there ops b.holder k h)) ∙ h

pub region_kept : (ops : List OpData) (x : OpData) (m : ℕ) → m < length ops → region_at (ops ++ x ∷ []) m ≡ region_at ops m
region_kept ops x m small = ap (λ (v : Option OpData). option_map_or (λ (y : OpData). y.blocks) v []) (still ops x m small)

pub below_more : (n k n' k' : ℕ) → n ≤ n' → k ≤ k' → (fs : List Func) → All (IsBelow n k) fs → All (IsBelow n' k') fs
below_more n k n' k' le lk fs h = All-weaker (IsBelow n k) (IsBelow n' k') (λ f b. (omega (arith, b.0, le), All-weaker (λ (x : DialectBlock). x.number < k) (λ (x : DialectBlock). x.number < k') (λ x small. omega (arith, small, lk)) f.blocks b.1)) fs h

-- what is there stays where it is when an operation is added
pub held_op : (c0 c : ContextData) (x : OpData) (m : ℕ) (body : BlockRef) → IsModuleAt c0 m body → c.ops ≡ c0.ops ++ x ∷ [] → c.blocks ≡ c0.blocks → IsModuleAt c m body
held_op c0 c x m body h ops blocks =
    let small = kind_there c0.ops (record { 0 = m }) K.Module h.kind in
    record {
      kind = rw ops (ap (option_map (λ (y : OpData). y.kind)) (still c0.ops x m small) ∙ h.kind);
      region = rw ops (region_kept c0.ops x m small ∙ h.region);
      block = rw blocks h.block;
      holder = rw (ops, blocks) (holder_kept c0.ops x (slice_get c0.blocks body.0) K.Module h.holder);
      bare = λ y at. h.bare y (ap (λ (xs : List BlockData). slice_get xs body.0) (sym blocks) ∙ at);
    }

pub stands_func : (c0 c1 : ContextData) (body : BlockRef) (o : OpRef) (name : List ℕ) (llvm_name : Option (List ℕ)) (ty : TypeHandle) (m : ℕ) (d : DialectModule) → IsBuilding c0 m body d → c1 ≡ with_op c0 (func_data name llvm_name ty) → o.0 ≡ length c0.ops
    → (kind_at c1.ops o ≡ Some K.Func) × (option_and_then (λ (x : BlockData). kind_at c1.ops x.holder) (slice_get c1.blocks body.0) ≡ Some K.Module)
stands_func c0 c1 body o name llvm_name ty m d h e number = (
  rw (e, number) (ap (option_map (λ (y : OpData). y.kind)) (slice_get-last c0.ops (func_data name llvm_name ty))),
  rw e (holder_kept c0.ops (func_data name llvm_name ty) (slice_get c0.blocks body.0) K.Module h.held.holder),
)

pub at_end : (ops : List OpData) (x : OpData) (o : OpRef) → o.0 ≡ length ops → slice_get (ops ++ x ∷ []) o.0 ≡ Some x
at_end ops x o number = rw number (slice_get-last ops x)

pub func_here : (c0 c1 : ContextData) (o : OpRef) (name : List ℕ) (llvm_name : Option (List ℕ)) (ty : TypeHandle) → c1 ≡ with_op c0 (func_data name llvm_name ty) → o.0 ≡ length c0.ops → func_in (type_trees c1.types) c1 o ≡ Some (bare_func o.0 name llvm_name (type_at (type_trees c0.types) ty))
func_here c0 c1 o name llvm_name ty e number =
    rw e (ap (option_and_then (func_of (type_trees c0.types) (with_op c0 (func_data name llvm_name ty)) o)) (at_end c0.ops (func_data name llvm_name ty) o number))

pub added_func : (c0 c1 c2 : ContextData) (m : ℕ) (body : BlockRef) (d : DialectModule) (o : OpRef) (name : List ℕ) (llvm_name : Option (List ℕ)) (ty : TypeHandle)
    → IsBuilding c0 m body d
    → c1 ≡ with_op c0 (func_data name llvm_name ty)
    → o.0 ≡ length c0.ops
    → data_of c1 m ≡ data_of c0 m
    → ty.0 < length c0.types
    → c2 ≡ with_appended c1 o body
    → ((f : Func) → func_in (type_trees c1.types) c1 o ≡ Some f → (m : ℕ) → region_at c1.ops m ≡ body ∷ [] → data_of c2 m ≡ with_func (data_of c1 m) f)
    → IsBuilding c2 m body (with_func d (bare_func o.0 name llvm_name (type_at (type_trees c0.types) ty)))
added_func c0 c1 c2 m body d o name llvm_name ty h e1 number data1 there e2 data2 =
    let ops : c2.ops ≡ c0.ops ++ func_data name llvm_name ty ∷ [] = ap (λ (c : ContextData). c.ops) e2 ∙ ap (λ (c : ContextData). c.ops) e1 in
    let blocks : c2.blocks ≡ c0.blocks = ap (λ (c : ContextData). c.blocks) e2 ∙ ap (λ (c : ContextData). c.blocks) e1 in
    let f = bare_func o.0 name llvm_name (type_at (type_trees c0.types) ty) in
    let region1 : region_at c1.ops m ≡ body ∷ [] = rw e1 (region_kept c0.ops (func_data name llvm_name ty) m h.there ∙ h.held.region) in
    let here : func_in (type_trees c1.types) c1 o ≡ Some f = func_here c0 c1 o name llvm_name ty e1 number in
    let kind1 : kind_at c1.ops o ≡ Some K.Func = (stands_func c0 c1 body o name llvm_name ty m d h e1 number).0 in
    let apart1 : HasFuncsApart c1 body = subst (λ (c : ContextData). HasFuncsApart c body) (sym e1) (op_apart c0 (func_data name llvm_name ty) body h.apart) in
    let own1 : IsOwn c1 m body = subst (λ (c : ContextData). IsOwn c m body) (sym e1) (own_op c0 (func_data name llvm_name ty) m body h.own (record { kind = tt; result = tt; symbol = there }) refl) in
    record {
      held = held_op c0 c2 (func_data name llvm_name ty) m body h.held ops blocks;
      apart = subst (λ (c : ContextData). HasFuncsApart c body) (sym e2) (func_apart c1 o body apart1 kind1);
      is = data2 f here m region1 ∙ ap (λ (x : DialectModule). with_func x f) (data1 ∙ h.is);
      there = rw ops (omega (arith, h.there, length-push c0.ops (func_data name llvm_name ty)));
      own = subst (λ (c : ContextData). IsOwn c m body) (sym e2) (own_appended c1 o body m body own1 (omega (arith, h.there, number)));
      below = rw (ops, blocks)
          (All-push (IsBelow (length (c0.ops ++ func_data name llvm_name ty ∷ [])) (length c0.blocks)) d.functions f
          (below_more (length c0.ops) (length c0.blocks) _ _ (omega (arith, length-push c0.ops (func_data name llvm_name ty))) (omega arith) d.functions h.below)
          (omega (arith, number, length-push c0.ops (func_data name llvm_name ty)), All-nil _));
    }

pub is_func : (c0 c1 c2 : ContextData) (body : BlockRef) (o : OpRef) (name : List ℕ) (llvm_name : Option (List ℕ)) (ty : TypeHandle) → c1 ≡ with_op c0 (func_data name llvm_name ty) → o.0 ≡ length c0.ops → c2 ≡ with_appended c1 o body → kind_at c2.ops o ≡ Some K.Func
is_func c0 c1 c2 body o name llvm_name ty e1 number e2 =
    ap (λ (c : ContextData). kind_at c.ops o) e2 ∙ ap (λ (c : ContextData). kind_at c.ops o) e1 ∙ ap (option_map (λ (y : OpData). y.kind)) (at_end c0.ops (func_data name llvm_name ty) o number)

-- ---- a block more

-- a function may hold a block more
pub holds_more : (ops : List OpData) (o : OpRef) → kind_at ops o ≡ Some K.Func → HoldsMore ops o
holds_more ops o h = inl h

abbrev pub region_more : BlockRef → OpData → OpData
region_more b o = record o { blocks = o.blocks ++ b ∷ [] }

kind_if : (t : Bool) (b : BlockRef) (v : Option OpData) → option_map (λ (x : OpData). x.kind) (if t then option_map (region_more b) v else v) ≡ option_map (λ (x : OpData). x.kind) v
kind_if true b None = refl
kind_if true b (Some x) = refl
kind_if false b v = refl

-- a region that grows leaves the kinds of operations
kind_change : (ops : List OpData) (b : BlockRef) (i : ℕ) (o : OpRef) → kind_at (with_change (region_more b) i ops) o ≡ kind_at ops o
kind_change ops b i o = ap (option_map (λ (x : OpData). x.kind)) (change_get (region_more b) i ops o.0) ∙ kind_if (nat_eq o.0 i) b (slice_get ops o.0)

holder_change : (ops : List OpData) (b : BlockRef) (i : ℕ) (v : Option BlockData) → option_and_then (λ (x : BlockData). kind_at (with_change (region_more b) i ops) x.holder) v ≡ option_and_then (λ (x : BlockData). kind_at ops x.holder) v
holder_change ops b i None = refl
holder_change ops b i (Some x) = kind_change ops b i x.holder

-- a module is no function
apart_kinds : (ops : List OpData) (m i : ℕ) → kind_at ops (record { 0 = m }) ≡ Some K.Module → kind_at ops (record { 0 = i }) ≡ Some K.Func → nat_eq m i ≡ false
apart_kinds ops m i a b = by (nat_eq m i) refl
  where
    by : (t : Bool) → nat_eq m i ≡ t → t ≡ false
    by false e = refl
    by true e = let same : m ≡ i = eqb-true m i e in absurd (let no : ⊥ = cc (a, b, same) in no)

region_change : (ops : List OpData) (b : BlockRef) (i m : ℕ) → nat_eq m i ≡ false → region_at (with_change (region_more b) i ops) m ≡ region_at ops m
region_change ops b i m apart =
    ap (λ (v : Option OpData). option_map_or (λ (y : OpData). y.blocks) v []) (change_get (region_more b) i ops m ∙ ap (λ (t : Bool). if t then option_map (region_more b) (slice_get ops m) else slice_get ops m) apart)

block_still : (blocks : List BlockData) (x : BlockData) (i : ℕ) → i < length blocks → slice_get (blocks ++ x ∷ []) i ≡ slice_get blocks i
block_still blocks x i small = slice_get-before blocks (x ∷ []) i small

below_block_if : (t : Bool) (n k : ℕ) (b : DialectBlock) (f : Func) → b.number < k → IsBelow n k f → IsBelow n k (if t then record f { blocks = f.blocks ++ b ∷ [] } else f)
below_block_if true n k b f small h = (h.0, All-push (λ (x : DialectBlock). x.number < k) f.blocks b h.1 small)
below_block_if false n k b f small h = h

below_block : (n k g : ℕ) (b : DialectBlock) (fs : List Func) → b.number < k → All (IsBelow n k) fs → All (IsBelow n k) (map (more_block g b) fs)
below_block n k g b fs small h =
    All-map (IsBelow n k) (more_block g b) fs (All-weaker (IsBelow n k) (λ (f : Func). IsBelow n k (more_block g b f)) (λ f below. below_block_if (nat_eq f.number g) n k b f small below) fs h)

-- a block without operations
abbrev pub new_block : ContextData → BlockRef → Option (List ℕ) → List TypeHandle → DialectBlock
new_block c b label args = record { number = b.0; label = label; args = map (type_at (type_trees c.types)) args; ops = [] }

pub added_block : (c0 c1 : ContextData) (m : ℕ) (body : BlockRef) (d : DialectModule) (b : BlockRef) (f : OpRef) (label : Option (List ℕ)) (args : List TypeHandle)
    → IsBuilding c0 m body d
    → kind_at c0.ops f ≡ Some K.Func
    → c1 ≡ with_block c0 b (record { holder = f; label = label; args = args })
    → b.0 ≡ length c0.blocks
    → data_of c1 m ≡ with_func_block (data_of c0 m) f.0 (new_block c0 b label args)
    → All (λ (t : TypeHandle). t.0 < length c0.types) args
    → list_at c1.lists b ≡ []
    → IsBuilding c1 m body (with_func_block d f.0 (new_block c0 b label args))
added_block c0 c1 m body d b f label args h func e number is typed empty =
    let x : BlockData = record { holder = f; label = label; args = args } in
    let ops : c1.ops ≡ with_change (region_more b) f.0 c0.ops = ap (λ (c : ContextData). c.ops) e in
    let blocks : c1.blocks ≡ c0.blocks ++ x ∷ [] = ap (λ (c : ContextData). c.blocks) e in
    let apart = apart_kinds c0.ops m f.0 h.held.kind func in
    let bare : list_at (with_block c0 b x).lists b ≡ [] = subst (λ (c : ContextData). list_at c.lists b ≡ []) e empty in
    record {
      held = record {
        kind = rw ops (kind_change c0.ops b f.0 (record { 0 = m }) ∙ h.held.kind);
        region = rw ops (region_change c0.ops b f.0 m apart ∙ h.held.region);
        block = rw blocks (omega (arith, h.held.block, length-push c0.blocks x));
        holder = rw (ops, blocks)
            (holder_change c0.ops b f.0 (slice_get (c0.blocks ++ x ∷ []) body.0) ∙ ap (option_and_then (λ (y : BlockData). kind_at c0.ops y.holder)) (block_still c0.blocks x body.0 h.held.block) ∙ h.held.holder);
        bare = λ y at. h.held.bare y (sym (block_still c0.blocks x body.0 h.held.block) ∙ ap (λ (xs : List BlockData). slice_get xs body.0) (sym blocks) ∙ at);
      };
      apart = subst (λ (c : ContextData). HasFuncsApart c body) (sym e) (block_apart c0 b body x h.apart number bare);
      is = is ∙ ap (λ (y : DialectModule). with_func_block y f.0 (new_block c0 b label args)) h.is;
      there = rw ops (omega (arith, h.there, length-with_change (region_more b) f.0 c0.ops));
      own = subst (λ (c : ContextData). IsOwn c m body) (sym e) (own_block c0 b x m body h.own number (omega (arith, number, h.held.block)) typed bare);
      below = rw (ops, blocks)
          (below_block (length (with_change (region_more b) f.0 c0.ops)) (length (c0.blocks ++ x ∷ [])) f.0 (new_block c0 b label args) d.functions (omega (arith, number, length-push c0.blocks x))
          (below_more (length c0.ops) (length c0.blocks) _ _ (omega (arith, length-with_change (region_more b) f.0 c0.ops)) (omega (arith, length-push c0.blocks x)) d.functions h.below));
    }

-- the context has a block more
pub one_block : (c0 c1 : ContextData) (b : BlockRef) (x : BlockData) → c1 ≡ with_block c0 b x → length c1.blocks ≡ length c0.blocks + 1
one_block c0 c1 b x e = ap (λ (c : ContextData). length c.blocks) e ∙ length-push c0.blocks x

-- the function is still one
pub func_still : (c0 c1 : ContextData) (b : BlockRef) (f : OpRef) (x : BlockData) → x.holder ≡ f → kind_at c0.ops f ≡ Some K.Func → c1 ≡ with_block c0 b x → kind_at c1.ops f ≡ Some K.Func
func_still c0 c1 b f x holder func e = ap (λ (c : ContextData). kind_at c.ops f) e ∙ kind_change c0.ops b x.holder.0 f ∙ func
