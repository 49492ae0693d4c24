-- What `module::LLVMModule::list_form` owes besides what the check finds.
use Rattle.std.proofs.Common.{sym, subst, ◌∙◌}
use Rattle.std.proofs.lemmas.Option.{slice_get_within}
use Rattle.llvm_core.specs.Sound.{IsModule}
use Rattle.llvm_core.proofs.GrowLemmas.{elements_within}
use Rattle.llvm_core.proofs.OneForm.{short_ints}
use Rattle.llvm_core.proofs.module.LLVMModule.list_form.Goals as goal

pub common_fill-requires : goal.common_fill-requires
common_fill-requires c = rw c.as_slice.ensures (elements_within c.args.self.now c.args.ty c.args.elements c.requires)

pub is_byte_array-requires : goal.is_byte_array-requires
is_byte_array-requires c = slice_get_within c.args.self.now.types c.args.ty.0 c.requires.kind c.requires.typed

pub all_bytes-requires : goal.all_bytes-requires
all_bytes-requires c =
    let sound = subst IsModule c.self.view_is c.self.invariant in
    let array = sym c.is_byte_array.ensures ∙ c.if-is_byte_array.true in
    rw c.as_slice-then-is_byte_array.ensures (short_ints c.args.self.now sound c.args.ty c.args.elements c.requires array)
