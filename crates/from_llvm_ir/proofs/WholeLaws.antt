-- A whole function stands for its source.
use Rattle.std.proofs.Common.{ℕ, zero, suc, ◌≡◌, ◌<◌, ◌≤◌, inl, inr, refl, sym, ap, subst, ◌∙◌, List, ◌++◌, Some, None, length, take, slice_get, arith}
use Rattle.std.specs.List.{flat_map}
use Rattle.std.proofs.lemmas.Bool.{cases_lt}
use Rattle.std.proofs.lemmas.List.{get_or_past}
use Rattle.std.proofs.lemmas.Option.{slice_get_within, slice_get_past, get_or_from_slice_get}
use Rattle.support.proofs.ListLaws.{item_there}
use Rattle.llvm_core.specs.Data as L
use Rattle.llvm_core.specs.Data.{ConstTree}
use Rattle.dialect_types.specs.Names.{IsIdentifier}
use Rattle.dialect_types.specs.Legalised.{Gave}
use Rattle.dialect_core.specs.Data.{DialectOp, DialectBlock}
use Rattle.meaning.specs.Pairs.{BothOrNone}
use Rattle.block_order.specs.DepthFirst.{IsDepthFirst}
use Rattle.from_llvm_ir.specs.declared.matching.FunctionBlocks.{FunctionBlocks}
use Rattle.from_llvm_ir.specs.Match.{IsPlaces, place_at}
use Rattle.from_llvm_ir.specs.Order.{IsInverse}
use Rattle.from_llvm_ir.specs.Imported.{FirstUses, Makes, IsImportedBlock, ImportedFunction, HasGivenName, IsLabel, constants_in, constants_used, rest_of, front_for}
use Rattle.from_llvm_ir.specs.Walks.{graph_of, HasDominatedUses}
use Rattle.from_llvm_ir.specs.Known.{Known, IsConstantOp, blocks_of}
use Rattle.from_llvm_ir.specs.Converted.{IsRow, IsConverted, args_for}
use Rattle.from_llvm_ir.proofs.ListLaws.{matched_weaker}
use Rattle.from_llvm_ir.proofs.NameLaws.{identifier_some}
use Rattle.from_llvm_ir.proofs.OrderLaws.{placed, not_first, in_order_is}
use Rattle.from_llvm_ir.proofs.Whole.{IsWhole, Head, the_func, target_at, bs_length}
use Rattle.from_llvm_ir.proofs.RuledLaws.{ruled_of}
use Rattle.from_llvm_ir.proofs.FormLaws.{form_of, constants_in_entry}
use Rattle.from_llvm_ir.proofs.ExportLaws.{exportable, has_targets}
use Rattle.from_llvm_ir.proofs.ShapeLaws.{shape_of}

makes : (c : ConstTree) (o : DialectOp) → IsConstantOp c o → Makes c o
makes c o h = (h.1 ∙ ap Some (sym (ap (λ (x : DialectOp). x.kind) h.2)), ap (λ (x : DialectOp). x.result) h.2, ap (λ (x : DialectOp). x.name) h.2)

module _ (d : L.ModuleData) (n : Head) (k : Known) (cs : List DialectBlock) (h : IsWhole k cs) (x : FunctionBlocks) (inverse : IsInverse k.frame.order x.places) (p : IsPlaces (length k.frame.source.blocks) x.places) where
  abbrev g : L.Function
  g = k.frame.source

  imported_block : (i j : ℕ) (b : L.Block) (c : DialectBlock) → slice_get k.frame.order j ≡ Some i → IsConverted k (take j cs) j b c → IsImportedBlock k.frame.given k.hoisted i b c
  imported_block zero j b c at v =
      let lt : 0 < length g.blocks = (let w = slice_get_within k.frame.order j 0 at in omega (arith, w, h.order.count)) in
      let first : j ≡ 0 = h.order.apart j 0 0 at (h.order.first lt) in
      record {
        label = subst (λ (y : ℕ). IsLabel k.frame.given y b c.label) first v.head.label;
        args = tt;
        rest = v.rest;
        ops = v.ops ∙ ap (λ (y : ℕ). front_for y k.hoisted ++ v.rest) first;
        names = matched_weaker (IsRow k b) (HasGivenName k.frame.given) (λ q o r. record { name = r.converted.name }) (rest_of b) v.rest v.rows;
      }
  imported_block (suc i) j b c at v =
      let q = not_first k.frame.order g.blocks h.order j i at in
      record {
        label = subst (λ (y : ℕ). IsLabel k.frame.given y b c.label) q.1 v.head.label;
        args = v.head.args ∙ ap (λ (y : ℕ). args_for g y b) q.1;
        rest = v.rest;
        ops = v.ops ∙ ap (λ (y : ℕ). front_for y k.hoisted ++ v.rest) q.1;
        names = matched_weaker (IsRow k b) (HasGivenName k.frame.given) (λ q o r. record { name = r.converted.name }) (rest_of b) v.rest v.rows;
      }

  imported_at : (i : ℕ) → BothOrNone (IsImportedBlock k.frame.given k.hoisted i) (slice_get g.blocks i) (slice_get cs (place_at i x))
  imported_at i = elim (cases_lt i (length g.blocks)) [ inl lt ↦ there_at i lt | inr past ↦ past_at i past ]
    where
      there_at : (i : ℕ) → i < length g.blocks → BothOrNone (IsImportedBlock k.frame.given k.hoisted i) (slice_get g.blocks i) (slice_get cs (place_at i x))
      there_at i lt =
          let b = item_there g.blocks i lt in
          let o = placed k.frame.order g.blocks h.order i b.0 b.1 in
          let c = target_at n k cs h o.0 b.0 o.2 in
          let right : slice_get cs (place_at i x) ≡ Some c.0 = ap (slice_get cs) (get_or_from_slice_get x.places i o.0 i (inverse o.0 i o.1)) ∙ c.1 in
          rw (b.1, right) (imported_block i o.0 b.0 c.0 o.1 c.2)

      past_at : (i : ℕ) → length g.blocks ≤ i → BothOrNone (IsImportedBlock k.frame.given k.hoisted i) (slice_get g.blocks i) (slice_get cs (place_at i x))
      past_at i past =
          let left : slice_get g.blocks i ≡ None = slice_get_past g.blocks i past in
          let right : slice_get cs (place_at i x) ≡ None = ap (slice_get cs) (get_or_past x.places i i (omega (arith, past, p.count))) ∙ slice_get_past cs i (omega (arith, past, h.count, bs_length n k cs h)) in
          rw (left, right) tt

  uses_are : constants_used d g x.places ≡ flat_map (λ (b : L.Block). flat_map (constants_in d g b) (rest_of b)) (blocks_of k.frame)
  uses_are = ap (flat_map (λ (b : L.Block). flat_map (constants_in d g b) (rest_of b))) (in_order_is k.frame.order g.blocks h.order x.places inverse p)

  pub imported : x.function.0 ≡ g.number → IsDepthFirst (graph_of g) k.frame.order → HasDominatedUses g → FirstUses (flat_map (λ (b : L.Block). flat_map (constants_in d g b) (rest_of b)) (blocks_of k.frame)) k.constants → IsIdentifier n.name → Gave k.frame.given g.name n.name → ImportedFunction d k.frame.given g x (the_func n k cs)
  imported number depth_first dominated uses legal gave = record {
    function = number;
    places = p;
    order = (k.frame.order, depth_first, inverse);
    uses = dominated;
    name = gave;
    llvm_name = refl;
    type = refl;
    form = form_of n k cs h (identifier_some n.name legal);
    ruled = ruled_of d n k cs h uses;
    first = constants_in_entry n k cs h;
    exportable = exportable n k cs h;
    targets = has_targets n k cs h;
    constants = k.constants;
    first_uses = subst (λ (us : List ConstTree). FirstUses us k.constants) (sym uses_are) uses;
    hoisted = k.hoisted;
    made = matched_weaker IsConstantOp Makes makes k.constants k.hoisted h.made;
    blocks = imported_at;
    shape = λ match source made named at. shape_of source made n k cs h match named x.places inverse p.count at;
  }
