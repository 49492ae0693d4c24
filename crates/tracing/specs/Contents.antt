-- What the tables of a body hold, types and the terms of constants, and what stays true while they grow.
use Rattle.std.specs.Prelude.{List}
use Rattle.llvm_core.specs.declared.types.LLVMTypeKind.{LLVMTypeKind}
use Rattle.llvm_core.specs.Data.{TypeTree, type_trees}
use Rattle.meaning.specs.Terms.{Term}
use Rattle.tracing.specs.declared.table.TermNode.{TermNode}
use Rattle.tracing.specs.Types.{KeepsTypes}
use Rattle.tracing.specs.Table.{terms, KeepsTerms}

pub record Contents : Type 0 where
  pub types : List TypeTree
  pub terms : List Term

-- the terms of nodes, with types among those trees
abbrev pub over : List TypeTree → List TermNode → Contents
over trees ns = record { types = trees; terms = terms trees ns }

-- what tables of those kinds and nodes hold
abbrev pub contents_of : List LLVMTypeKind → List TermNode → Contents
contents_of ks ns = over (type_trees ks) ns

-- ---- tables that grow

-- what stood at a place stands there
abbrev pub KeepsContents : Contents → Contents → Type 0
KeepsContents old new = KeepsTypes old.types new.types × KeepsTerms old.terms new.terms

-- it is so of these, however many more come
abbrev pub Lasts : Contents → (Contents → Type 0) → Type 0
Lasts c P = (later : Contents) → KeepsContents c later → P later
