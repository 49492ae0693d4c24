-- A module in which a function gets a body is a module.
use Rattle.std.proofs.Common.{◌≡◌, ◌<◌, inl, inr, ℕ, List, ◌++◌, Some, length, slice_get, sym, subst}
use Rattle.std.proofs.lemmas.Option.{slice_get_within}
use Rattle.support.proofs.ListLaws.{slice_get-behind_cases}
use Rattle.llvm_core.specs.declared.numbers.LLVMFunction.{LLVMFunction}
use Rattle.llvm_core.specs.declared.bodies.BodyBlock.{BodyBlock}
use Rattle.llvm_core.specs.declared.code.InstData.{InstData}
use Rattle.llvm_core.specs.Module.{Module}
use Rattle.llvm_core.specs.Parts.{HasValues, result_type}
use Rattle.llvm_core.specs.Sound.{IsInstIn, StandsFor, IsModule}
use Rattle.llvm_core.specs.Bodies.{IsBodyInst, IsBodyOf, added, body_insts}
use Rattle.llvm_core.proofs.GrowLemmas.{inst_kept}
use Rattle.llvm_core.proofs.BodyLists.{FromBody, from_body}
use Rattle.llvm_core.proofs.BodyFrames.{frame_of, module_of, added_grows, added_frame}

right_of : (m : Module) (z : InstData) → z.block.0 < length m.blocks → FromBody (IsBodyInst m) z → IsInstIn m z
right_of m z within from = record {
  block = within;
  typed = subst (λ (w : InstData). w.ty.0 < length m.types) (sym from.is) from.holds.typed;
  result = subst (λ (w : InstData). StandsFor m.types (result_type m w.inst) w.ty) (sym from.is) from.holds.result;
  values = subst (λ (w : InstData). HasValues m w.inst) (sym from.is) from.holds.values;
}

module _ (m : Module) (f : LLVMFunction) (body : List BodyBlock) (s : IsModule m) (there : f.0 < length m.functions) (right : IsBodyOf m f body) where
  abbrev new : List InstData
  new = body_insts (length m.blocks) body

  inst_right : (i : ℕ) (x : InstData) → slice_get (m.insts ++ new) i ≡ Some x → IsInstIn (added m f body) x
  inst_right i x at = elim (slice_get-behind_cases m.insts new i x at) [
    | inl old ↦ inst_kept m (added m f body) (added_grows m f body) s x (s.insts i x old)
    | inr later ↦ (let listed = (added_frame m f body (frame_of m s) there).listed_insts i x at in
        right_of (added m f body) x (slice_get_within (added m f body).blocks x.block.0 listed.0 listed.2)
        (from_body (IsBodyInst (added m f body)) (length m.blocks) body later.0 x right later.2))
  ]

  pub body_sound : IsModule (added m f body)
  body_sound = module_of (added m f body) (added_frame m f body (frame_of m s) there) inst_right
