-- What `types::made_struct` owes besides what the check finds.
use Rattle.std.proofs.Common.{◌∙◌, refl, sym, ap, subst}
use Rattle.kinds.specs.Structs.{struct_in}
use Rattle.kinds.specs.Types.{NamedType}
use Rattle.llvm_core.specs.declared.types.LLVMTypeKind.TheVariants as T
use Rattle.llvm_core.proofs.DataLemmas.{type_tree_of}
use Rattle.dialect_types.specs.Trees.{structs_of, type_at, type_trees, IsStored}
use Rattle.dialect_types.proofs.StructLaws.{stored_names}
use Rattle.from_llvm_ir.proofs.FoundLaws.{identifier_there, named_among}
use Rattle.from_llvm_ir.proofs.types.made_struct.Goals as goal

-- a type names only structs that are there
pub unreachable-requires : goal.unreachable-requires
unreachable-requires c =
    let structs = structs_of c.args.ctx.now.types in
    let name = c.in-Some.name.now in
    let none = ap (λ ks. struct_in (structs_of ks) name) (sym c.types-in-Some.ensures) ∙ ap (struct_in (structs_of c.types-in-Some.result.now)) (sym c.as_str.ensures.text) ∙ c.named.ensures.none c.in-None-named.is in
    named_among structs c.args.source.now c.requires.sound c.args.ty (T.Named name) c.in-Some.ensures.some c.requires.ready name refl none

-- and each of these has an identifier
pub unreachable-requires-in-None : goal.unreachable-requires-in-None
unreachable-requires-in-None c =
    let r = c.requires in
    let structs = structs_of c.args.ctx.now.types in
    let there = named_among structs c.args.source.now r.sound c.args.ty (T.Named r.named.0) r.named.1 r.ready r.named.0 refl in
    c.struct_name.ensures.none c.in-None.is r.named.0 r.named.1 (identifier_there structs r.named.0 (stored_names c.args.ctx.now.types (subst IsStored c.types.ensures c.len.ensures.stored)) there)

pub returns-clause-ty : goal.returns-clause-ty
returns-clause-ty c =
    ap (λ ks. type_at (type_trees ks) c.in-Some-named.made) (sym c.types-in-Some.ensures) ∙ c.in-Some-named.ensures.found.1 ∙ ap NamedType c.as_str.ensures.text ∙ sym (type_tree_of c.args.source.now c.args.ty (T.Named c.in-Some.name.now) c.requires.sound c.in-Some.ensures.some)
