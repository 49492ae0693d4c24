-- What `context::Context::set_llvm_symbol_name` owes besides what the check finds.
use Rattle.std.proofs.Common.{◌∙◌, ℕ, List, Some, is_some, sym, subst, ap, refl, arith}
use Rattle.std.proofs.lemmas.Option.{slice_get-get_or}
use Rattle.dialect_core.specs.Data.{data_of, IsTyped}
use Rattle.dialect_core.specs.ContextData.{ContextData, IsSymbol, region_at, holder_at}
use Rattle.dialect_core.proofs.ContextLemmas.{context, set_op_kept, op_within}
use Rattle.dialect_core.proofs.RegionLemmas.{same_regions, set_region}
use Rattle.dialect_core.proofs.LlvmNameLemmas.{symbol_of, symbol_set, symbol_within, llvm_named_view, llvm_named_data, llvm_name_typed}
use Rattle.dialect_core.proofs.context.Context.set_llvm_symbol_name.Goals as goal

pub invariant_of-self : goal.invariant_of-self
invariant_of-self c =
    let ops = c.self.inside.ops.items in
    let x = c.index_mut.result.now in
    let h : IsSymbol ops c.args.op = rw (← c.self.view_is) at c.requires in
    let there = symbol_within ops c.args.op h in
    let at = slice_get-get_or ops c.args.op.0 x there ∙ ap Some (sym c.index_mut.ensures.value) in
    let within = op_within ops c.self.inside.blocks.items c.self.inside.lists.parents c.self.inside.lists.lists c.args.op.0 x c.self.invariant.numbers there c.index_mut.ensures.value in
    record {
      numbers = set_op_kept ops c.self.inside.blocks.items c.self.inside.lists.parents c.self.inside.lists.lists c.args.op.0 _ c.self.invariant.numbers
          (record { operands = within.operands; successors = within.successors; blocks = within.blocks; symbol = within.symbol ∙ ap is_some (symbol_of ops c.args.op x h at) });
      regions = same_regions (region_at ops) _ (holder_at c.self.inside.blocks.items) _ (λ o. set_region ops _ x c.args.op.0 o at refl) (λ b. refl) c.self.invariant.regions;
    }

pub index_mut-requires : goal.index_mut-requires
index_mut-requires c = let there = symbol_within c.self.inside.ops.items c.args.op (rw (← c.self.view_is) at c.requires) in omega (arith, there)

pub returns-clause-ok : goal.returns-clause-ok
returns-clause-ok c =
    let ops = c.self.inside.ops.items in
    let x = c.index_mut.result.now in
    let h : IsSymbol ops c.args.op = rw (← c.self.view_is) at c.requires in
    let there = symbol_within ops c.args.op h in
    let at = slice_get-get_or ops c.args.op.0 x there ∙ ap Some (sym c.index_mut.ensures.value) in
    let named = c.in_ok-symbol.ensures ∙ ap (λ (n : List ℕ). record { ty = c.symbol_type.result; linkage = c.symbol_linkage.result; llvm_name = Some n }) c.in_ok-copy.ensures in
    let set = symbol_set ops c.args.op x c.args.name.now c.symbol_type.result c.symbol_linkage.result at (rw (← c.self.view_is) at c.symbol_type.ensures) (rw (← c.self.view_is) at c.symbol_linkage.ensures) ∙ ap Some (sym named) in
    let viewed = llvm_named_view c.self.inside.types ops c.self.inside.blocks.items c.self.inside.lists.parents c.self.inside.lists.lists c.args.op c.args.name.now x c.in_ok-symbol.symbol there c.index_mut.ensures.value set in
    rw (← c.self.view_is) viewed

pub returns-clause-data : goal.returns-clause-data
returns-clause-data c =
    let ops = c.self.inside.ops.items in
    let x = c.index_mut.result.now in
    let h : IsSymbol ops c.args.op = rw (← c.self.view_is) at c.requires in
    let there = symbol_within ops c.args.op h in
    let at = slice_get-get_or ops c.args.op.0 x there ∙ ap Some (sym c.index_mut.ensures.value) in
    let named = c.in_ok-symbol.ensures ∙ ap (λ (n : List ℕ). record { ty = c.symbol_type.result; linkage = c.symbol_linkage.result; llvm_name = Some n }) c.in_ok-copy.ensures in
    let set = symbol_set ops c.args.op x c.args.name.now c.symbol_type.result c.symbol_linkage.result at (rw (← c.self.view_is) at c.symbol_type.ensures) (rw (← c.self.view_is) at c.symbol_linkage.ensures) ∙ ap Some (sym named) in
    let viewed = llvm_named_view c.self.inside.types ops c.self.inside.blocks.items c.self.inside.lists.parents c.self.inside.lists.lists c.args.op c.args.name.now x c.in_ok-symbol.symbol there c.index_mut.ensures.value set in
    rw (← c.self.view_is) (λ m. ap (λ (d : ContextData). data_of d m) viewed ∙ llvm_named_data (context c.self.inside.types c.self.inside.ops.items c.self.inside.blocks.items c.self.inside.lists.parents c.self.inside.lists.lists) c.args.op c.args.name.now m)

pub returns-clause-typed : goal.returns-clause-typed
returns-clause-typed c =
    let ops = c.self.inside.ops.items in
    let x = c.index_mut.result.now in
    let h : IsSymbol ops c.args.op = rw (← c.self.view_is) at c.requires in
    let there = symbol_within ops c.args.op h in
    let at = slice_get-get_or ops c.args.op.0 x there ∙ ap Some (sym c.index_mut.ensures.value) in
    let named = c.in_ok-symbol.ensures ∙ ap (λ (n : List ℕ). record { ty = c.symbol_type.result; linkage = c.symbol_linkage.result; llvm_name = Some n }) c.in_ok-copy.ensures in
    let set = symbol_set ops c.args.op x c.args.name.now c.symbol_type.result c.symbol_linkage.result at (rw (← c.self.view_is) at c.symbol_type.ensures) (rw (← c.self.view_is) at c.symbol_linkage.ensures) ∙ ap Some (sym named) in
    let viewed = llvm_named_view c.self.inside.types ops c.self.inside.blocks.items c.self.inside.lists.parents c.self.inside.lists.lists c.args.op c.args.name.now x c.in_ok-symbol.symbol there c.index_mut.ensures.value set in
    rw (← c.self.view_is) (λ typed. subst IsTyped (sym viewed) (llvm_name_typed (context c.self.inside.types c.self.inside.ops.items c.self.inside.blocks.items c.self.inside.lists.parents c.self.inside.lists.lists) c.args.op c.args.name.now typed))
