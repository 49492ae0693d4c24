-- What is said of rows by a table of types stays true while the table grows.
use Rattle.std.proofs.Common.{◌≡◌, ◌<◌, ℕ, Bool, true, false, List, [], ◌∷◌, ◌++◌, Some, length, map, get_or, ◌+◌, refl, sym, ap, subst, ◌∙◌, arith, if◌then◌else◌}
use Rattle.std.specs.Prelude.{nat_eq, take, slice_index_or}
use Rattle.std.proofs.lemmas.Bool.{eqb-true}
use Rattle.std.proofs.lemmas.List.{map-append}
use Rattle.std.proofs.lemmas.List.Elements.{All-nil, All-cons, All-push}
use Rattle.std.proofs.lemmas.Option.{same_Some, slice_get_within, get_or_from_slice_get}
use Rattle.support.specs.NumberMaps.{value_at}
use Rattle.kinds.specs.declared.op.Op.{Op}
use Rattle.llvm_core.specs.declared.numbers.LLVMType.{LLVMType}
use Rattle.llvm_core.specs.declared.types.LLVMTypeKind.{LLVMTypeKind}
use Rattle.llvm_core.specs.Data.{TypeTree, VoidType, type_at, types_at, type_trees}
use Rattle.llvm_core.proofs.TreeLemmas.{length-type_trees}
use Rattle.meaning.proofs.MatchedLaws.{matched_push}
use Rattle.meaning.specs.Terms as T
use Rattle.meaning.specs.Terms.{Term}
use Rattle.meaning.specs.Machine as M
use Rattle.tracing.specs.declared.trace.Types.{Types}
use Rattle.tracing.specs.declared.type_places.TypePlaces.{TypePlaces}
use Rattle.tracing.specs.declared.body.Slot.{Slot}
use Rattle.tracing.specs.declared.body.Source.{Source}
use Rattle.tracing.specs.declared.body.Source.TheVariants as S
use Rattle.tracing.specs.declared.body.Action.{Action}
use Rattle.tracing.specs.declared.body.Action.TheVariants as A
use Rattle.tracing.specs.declared.body.Row.{Row}
use Rattle.tracing.specs.declared.body.Block.{Block}
use Rattle.tracing.specs.Types.{Stands, AllStand, AreBelow, KeepsTypes}
use Rattle.tracing.specs.Table.{IsTermAt, term_at}
use Rattle.tracing.specs.Contents.{Contents, KeepsContents, Lasts}
use Rattle.tracing.specs.TypePlaces.{trees_in, ArePlacesOf, IsGrown}
use Rattle.tracing.proofs.ListLaws.{listed_more}
use Rattle.tracing.specs.Bodies.{source_of, action_of, row_of, block_of, IsKnownSource, IsKnownRow, IsKnownBlock, IsSource, AreSources, IsAction, AreRows, IsBlock, AreBlocks}

-- ---- types that stand

-- a type that stands is what is looked up
pub stands_at : (trees : List TypeTree) (t : LLVMType) (u : TypeTree) → Stands trees t u → type_at trees t ≡ u
stands_at trees t u h = get_or_from_slice_get trees t.0 u VoidType h

pub all_at : (trees : List TypeTree) (ts : List LLVMType) (us : List TypeTree) → AllStand trees ts us → map (type_at trees) ts ≡ us
all_at trees [] [] h = refl
all_at trees (t ∷ ts) (u ∷ us) h = let e = stands_at trees t u h.0 in let rest = all_at trees ts us h.1 in cc
all_at trees [] (u ∷ us) h = elim h [ ]
all_at trees (t ∷ ts) [] h = elim h [ ]

pub all_types_below : (trees : List TypeTree) (ts : List LLVMType) (us : List TypeTree) → AllStand trees ts us → AreBelow (length trees) ts
all_types_below trees [] [] h = All-nil (λ (t : LLVMType). t.0 < length trees)
all_types_below trees (t ∷ ts) (u ∷ us) h = All-cons (λ (t : LLVMType). t.0 < length trees) t ts (slice_get_within trees t.0 u h.0) (all_types_below trees ts us h.1)
all_types_below trees [] (u ∷ us) h = elim h [ ]
all_types_below trees (t ∷ ts) [] h = elim h [ ]

pub all_stay : (old new : List TypeTree) → KeepsTypes old new → (ts : List LLVMType) (us : List TypeTree) → AllStand old ts us → AllStand new ts us
all_stay old new keeps [] [] h = tt
all_stay old new keeps (t ∷ ts) (u ∷ us) h = (keeps t.0 u h.0, all_stay old new keeps ts us h.1)
all_stay old new keeps [] (u ∷ us) h = elim h [ ]
all_stay old new keeps (t ∷ ts) [] h = elim h [ ]

-- one type more stands
pub stand_more : {X : Type 0} (g : X → TypeTree) (old new : List TypeTree) (ts : List LLVMType) (t : LLVMType) (xs : List X) (i : ℕ) (d : X) → i < length xs → KeepsTypes old new → AllStand old ts (map g (take i xs)) → Stands new t (g (get_or xs i d))
    → AllStand new (ts ++ t ∷ []) (map g (take (i + 1) xs))
stand_more g old new ts t xs i d lt keeps before here =
    subst (AllStand new (ts ++ t ∷ [])) (listed_more g (map g (take i xs)) xs i d lt refl) (matched_push (Stands new) ts (map g (take i xs)) t (g (get_or xs i d)) (all_stay old new keeps ts (map g (take i xs)) before) here)

-- parts that stand for those of a source make the same trees
pub same_parts : (source trees : List TypeTree) (ps ts : List LLVMType) → AllStand trees ts (map (type_at source) ps) → types_at trees ts ≡ types_at source ps
same_parts source trees [] [] h = refl
same_parts source trees (p ∷ ps) (t ∷ ts) h = let e = stands_at trees t (type_at source p) h.0 in let rest = same_parts source trees ps ts h.1 in cc
same_parts source trees (p ∷ ps) [] h = elim h [ ]
same_parts source trees [] (t ∷ ts) h = elim h [ ]

-- what stands in a table is one of its places
pub place_below : (ks : List LLVMTypeKind) (t : LLVMType) (u : TypeTree) → Stands (type_trees ks) t u → t.0 < length ks
place_below ks t u h = omega (arith, length-type_trees ks, slice_get_within (type_trees ks) t.0 u h)

pub places_below : (ks : List LLVMTypeKind) (ts : List LLVMType) (us : List TypeTree) → AllStand (type_trees ks) ts us → AreBelow (length ks) ts
places_below ks ts us h = subst (λ (n : ℕ). AreBelow n ts) (length-type_trees ks) (all_types_below (type_trees ks) ts us h)

-- ---- places

pub put_grown : (source : List TypeTree) (old new : TypePlaces) (number : ℕ) (place : LLVMType) (tree : TypeTree) → KeepsTypes (trees_in old) (trees_in new) → Stands (trees_in new) place tree
    → ((q : ℕ) → value_at new.places q ≡ (if nat_eq number q then Some place else value_at old.places q)) → ArePlacesOf source old → tree ≡ slice_index_or source number VoidType → IsGrown source old new
put_grown source old new number place tree keeps stands updates before is = record { kept = keeps; places = λ q t at. by (nat_eq number q) q t refl (sym (updates q) ∙ at) }
  where
    by : (b : Bool) (q : ℕ) (t : LLVMType) → nat_eq number q ≡ b → (if b then Some place else value_at old.places q) ≡ Some t → Stands (trees_in new) t (slice_index_or source q VoidType)
    by true q t e h =
        let same : place ≡ t = same_Some place t h in
        let number_is : number ≡ q = eqb-true number q e in
        subst (λ (t : LLVMType). Stands (trees_in new) t (slice_index_or source q VoidType)) same (stands ∙ ap Some (is ∙ ap (λ (n : ℕ). slice_index_or source n VoidType) number_is))
    by false q t e h = keeps t.0 (slice_index_or source q VoidType) (before q t h)

pub table_grown : (source : List TypeTree) (old new : TypePlaces) → new.places ≡ old.places → KeepsTypes (trees_in old) (trees_in new) → ArePlacesOf source old → IsGrown source old new
table_grown source old new same keeps before = record {
  kept = keeps;
  places = λ q t at. keeps t.0 (slice_index_or source q VoidType) (before q t (ap (λ m. value_at m q) (sym same) ∙ at));
}

pub same_grown : (source : List TypeTree) (p : TypePlaces) → ArePlacesOf source p → IsGrown source p p
same_grown source p before = record { kept = λ k t at. at; places = before }

pub then_grown : (source : List TypeTree) (a b c : TypePlaces) → IsGrown source a b → IsGrown source b c → IsGrown source a c
then_grown source a b c first second = record { kept = λ k t at. second.kept k t (first.kept k t at); places = second.places }

-- ---- what lasts

pub same_kept : (now : Contents) → KeepsContents now now
same_kept now = ((λ k t at. at), (λ k t at. at))

pub then_kept : (a b c : Contents) → KeepsContents a b → KeepsContents b c → KeepsContents a c
then_kept a b c first second = ((λ k t at. second.0 k t (first.0 k t at)), (λ k t at. second.1 k t (first.1 k t at)))

pub lasts : (P : Contents → Type 0) (old new : Contents) → KeepsContents old new → Lasts old P → Lasts new P
lasts P old new keeps h = λ later more. h later (then_kept old new later keeps more)

-- the term that stands at a place is what is looked up
pub term_stands : (ts : List Term) (k : ℕ) (t : Term) → IsTermAt ts k t → term_at ts k ≡ t
term_stands ts k t h = get_or_from_slice_get ts k t T.Unset h

-- a constant as an operand, and what holds it
pub held_source : (now : Contents) (k : ℕ) (t : Term) → IsTermAt now.terms k t → IsSource now (S.Fixed k) (M.Fixed t)
held_source now k t is = λ later more.
    let here = more.1 k t is in
    (ap (λ (u : Term). let o : M.Operand Slot = M.Fixed u in o) (term_stands later.terms k t here), slice_get_within later.terms k t here)

pub held_action : (now : Contents) (k : ℕ) (t : Term) → IsTermAt now.terms k t → IsAction now (A.Holds k) (M.Holds t)
held_action now k t is = λ later more.
    let here = more.1 k t is in
    (ap (λ (u : Term). let a : M.Action Slot = M.Holds u in a) (term_stands later.terms k t here), slice_get_within later.terms k t here)

pub no_sources : (now : Contents) → AreSources now [] []
no_sources now = λ later more. (refl, All-nil (IsKnownSource later))

-- one operand more
pub sources_push : (old new : Contents) (ss : List Source) (xs : List (M.Operand Slot)) (s : Source) (x : M.Operand Slot) → KeepsContents old new → AreSources old ss xs → IsSource new s x → AreSources new (ss ++ s ∷ []) (xs ++ x ∷ [])
sources_push old new ss xs s x keeps before here = λ later more.
    let b = lasts _ old new keeps before later more in
    let h = here later more in (
      map-append (source_of later.terms) ss (s ∷ []) ∙ ap (λ l. l ++ source_of later.terms s ∷ []) b.0 ∙ ap (λ y. xs ++ y ∷ []) h.0,
      All-push (IsKnownSource later) ss s b.1 h.1,
    )

applies_same : (o : Op) (ty ty' : TypeTree) (tys tys' : List TypeTree) (os os' : List (M.Operand Slot)) → ty ≡ ty' → tys ≡ tys' → os ≡ os' → ◌≡◌ {A = M.Action Slot} (M.Applies o ty tys os) (M.Applies o ty' tys' os')
applies_same o ty ty' tys tys' os os' a b c = cc

-- an action on operands, whose types stand in the table
pub applies : (now : Contents) (o : Op) (types : Types) (operands : List Source) (ty : TypeTree) (tys : List TypeTree) (os : List (M.Operand Slot)) → Stands now.types types.result ty → AllStand now.types types.operands tys → AreSources now operands os
    → IsAction now (A.Applies o types operands) (M.Applies o ty tys os)
applies now o types operands ty tys os result rest sources = λ later keeps.
    let here = keeps.0 types.result.0 ty result in
    let all = all_stay now.types later.types keeps.0 types.operands tys rest in
    let given = sources later keeps in
    (applies_same o _ _ _ _ _ _ (stands_at later.types types.result ty here) (all_at later.types types.operands tys all) given.0, ((slice_get_within later.types types.result.0 ty here, all_types_below later.types types.operands tys all), given.1))

-- one row more
pub rows_push : (old new : Contents) (rs : List Row) (xs : List (M.Row Slot)) (a : Action) (x : M.Action Slot) (v : Slot) → KeepsContents old new → AreRows old rs xs → IsAction new a x
    → AreRows new (rs ++ record { action = a; result = v } ∷ []) (xs ++ record { action = x; result = v } ∷ [])
rows_push old new rs xs a x v keeps before here = λ later more.
    let b = lasts _ old new keeps before later more in
    let h = here later more in
    let r : Row = record { action = a; result = v } in
    let y : M.Action Slot → M.Row Slot = λ (z : M.Action Slot). record { action = z; result = v } in (
      map-append (row_of later) rs (r ∷ []) ∙ ap (λ l. l ++ y (action_of later a) ∷ []) b.0 ∙ ap (λ z. xs ++ y z ∷ []) h.0,
      All-push (IsKnownRow later) rs r b.1 h.1,
    )

pub no_rows : (now : Contents) → AreRows now [] []
no_rows now = λ later more. (refl, All-nil (IsKnownRow later))

-- one block more
pub blocks_push : (old new : Contents) (params : List (List Slot)) (bs : List Block) (xs : List (M.Block Slot)) (b : Block) (x : M.Block Slot) → KeepsContents old new → AreBlocks old params bs xs → IsBlock new params b x
    → AreBlocks new params (bs ++ b ∷ []) (xs ++ x ∷ [])
blocks_push old new params bs xs b x keeps before here = λ later more.
    let p = lasts _ old new keeps before later more in
    let h = here later more in (
      map-append (block_of later params) bs (b ∷ []) ∙ ap (λ l. l ++ block_of later params b ∷ []) p.0 ∙ ap (λ z. xs ++ z ∷ []) h.0,
      All-push (IsKnownBlock later) bs b p.1 h.1,
    )

pub no_blocks : (now : Contents) (params : List (List Slot)) → AreBlocks now params [] []
no_blocks now params = λ later more. (refl, All-nil (IsKnownBlock later))
