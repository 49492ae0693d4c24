-- What `structs::StructStore::add` owes besides what the check finds.
use Rattle.std.proofs.Common.{◌≡◌, ◌<◌, ◌^◌, ◌++◌, ◌∷◌, [], ℕ, List, length, arith, ◌∙◌, ap, subst}
use Rattle.llvm_core.specs.declared.numbers.LLVMStruct.{LLVMStruct}
use Rattle.llvm_core.specs.declared.structs.StructData.{StructData}
use Rattle.llvm_core.specs.Firsts.{IsNoted}
use Rattle.llvm_core.proofs.StructFirsts.{firsts_more}
use Rattle.llvm_core.proofs.structs.StructStore.add.Goals as goal

pub invariant_of-self-2 : goal.invariant_of-self-2
invariant_of-self-2 c =
    let x : StructData = record { name = c.in_ok-name.name; body = c.args.body } in
    let s : LLVMStruct = record { 0 = c.len-at.result } in
    let items : c.push.new.self.items ≡ c.self.inside.items.items ++ x ∷ [] = c.in_ok-push.ensures.items ∙ ap (λ (ys : List StructData). ys ++ x ∷ []) c.reserve.ensures.items in
    let noted : IsNoted c.self.inside.firsts c.note.new.firsts x.name s = subst (λ (n : List ℕ). IsNoted c.self.inside.firsts c.note.new.firsts n s) c.as_str.ensures c.in_ok-note.ensures.ok in
    let at : s.0 ≡ length c.self.inside.items.items = omega (arith, c.len-at.ensures, c.self.inside.items.ok.0) in
    let few : length c.push.new.self.items < 2 ^ 32 = omega (arith, c.if-at.false, c.in_ok-push.ensures.len, c.in_ok-reserve.ensures.len, c.len-at.ensures) in
    (few, rw items (firsts_more c.self.inside.items.items x s c.self.inside.firsts c.note.new.firsts at c.self.invariant.1 noted))
