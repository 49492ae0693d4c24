-- Operations that stand for instructions, blocks that stand for blocks, and what makes a function whole.
use Rattle.std.specs.Prelude.{ℕ, zero, suc, ◌≡◌, ◌<◌, ◌+◌, ◌++◌, List, [], ◌∷◌, Some, All, map, take, length, slice_get}
use Rattle.llvm_core.specs.Data as L
use Rattle.llvm_core.specs.Data.{Placed}
use Rattle.llvm_core.specs.Form.{operands_of}
use Rattle.dialect_types.specs.Trees.{TypeTree}
use Rattle.dialect_core.specs.declared.ops.Value.{Value}
use Rattle.dialect_core.specs.declared.ops.Value.TheVariants as V
use Rattle.dialect_core.specs.declared.ops.Successor.{Successor}
use Rattle.dialect_core.specs.Data.{DialectBlock, DialectOp, Kind, RowOp}
use Rattle.dialect_core.specs.Form.{uses_of}
use Rattle.meaning.specs.Pairs.{Matched}
use Rattle.kinds.specs.Types.{params_of}
use Rattle.kinds.specs.Held.{own_type}
use Rattle.from_llvm_ir.specs.Imported.{passed, IsGivenName, rest_of, phis_of, IsLabel, front_for}
use Rattle.from_llvm_ir.specs.Building.{ops_of}
use Rattle.from_llvm_ir.specs.Known.{Frame, Known, blocks_of, value_of, result_in, Stands}

-- ---- operations

-- the kind that stands for an instruction: the same row of the table, with its immediates; a phi becomes no operation
abbrev pub IsKind : L.Instruction → Kind → Type 0
IsKind (L.Phi entries) k = ⊥
IsKind (L.Applied r) k = k ≡ RowOp r.op

-- an edge from the block of the number `from` to that of the number `to`, and the same in the dialect
pub record IsEdge (k : Known) (from to : ℕ) (s : Successor) : Type 0 where
  pub place : ℕ
  pub target : L.Block
  pub here : slice_get (blocks_of k.frame) place ≡ Some target
  pub number : target.number ≡ to
  pub leads : s.block.0 ≡ k.frame.base + place
  pub args : Matched (Stands k) (passed k.frame.source from to) s.args

-- the operation stands for the instruction p of the block b
pub record Converted (k : Known) (b : L.Block) (p : Placed) (o : DialectOp) : Type 0 where
  pub kind : IsKind p.instruction o.kind
  pub name : IsGivenName k.frame.given p.name o.name
  pub operands : Matched (Stands k) (operands_of p.instruction) o.operands
  pub successors : Matched (IsEdge k b.number) (L.targets p.instruction) o.successors
  pub result : o.result ≡ own_type p.type

-- and its result for the instruction's
pub record IsRow (k : Known) (b : L.Block) (p : Placed) (o : DialectOp) : Type 0 where
  pub converted : Converted k b p o
  pub stands : result_in k p.number ≡ Some (value_of o)

-- ---- blocks

-- the types of the arguments of the block at a place: those of the parameters, or of its phis
abbrev pub args_for : L.Function → (place : ℕ) → L.Block → List TypeTree
args_for g zero b = params_of g.type
args_for g (suc n) b = map (λ (p : Placed). p.type) (phis_of b)

-- the number, label and arguments of the block at a place
pub record IsHead (fr : Frame) (place : ℕ) (b : L.Block) (c : DialectBlock) : Type 0 where
  pub number : c.number ≡ fr.base + place
  pub label : IsLabel fr.given place b c.label
  pub args : c.args ≡ args_for fr.source place b

-- the blocks have the numbers, labels and arguments of those at their places
abbrev pub AreHeads : Frame → List DialectBlock → Type 0
AreHeads fr cs = (place : ℕ) (b : L.Block) (c : DialectBlock) → slice_get (blocks_of fr) place ≡ Some b → slice_get cs place ≡ Some c → IsHead fr place b c

-- the value stands in the block c before its operation at a place, or in a block before it
abbrev pub StandsIn : (left : List DialectBlock) (c : DialectBlock) (place : ℕ) → Value → Type 0
StandsIn left c place (V.Result r) = (i : ℕ) × (o : DialectOp) × (slice_get (ops_of left ++ take place c.ops) i ≡ Some o) × (o.number ≡ r.0)
StandsIn left c place (V.Argument b i) = (x : ℕ) × (d : DialectBlock) × (slice_get (left ++ c ∷ []) x ≡ Some d) × (d.number ≡ b.0) × (i < length d.args)

-- each value stands before its uses in the block c
abbrev pub HasOrder : (left : List DialectBlock) (c : DialectBlock) → Type 0
HasOrder left c = (place : ℕ) (o : DialectOp) → slice_get c.ops place ≡ Some o → All (StandsIn left c place) (uses_of o)

-- the phi at a place of the block of that number is its argument there
abbrev pub HasPhis : Known → (number : ℕ) → List Placed → Type 0
HasPhis k number phis = (x : ℕ) (p : Placed) → slice_get phis x ≡ Some p → result_in k p.number ≡ Some (V.Argument (record { 0 = number }) x)

-- the block c behind the blocks `left` stands for the block b
pub record IsConverted (k : Known) (left : List DialectBlock) (place : ℕ) (b : L.Block) (c : DialectBlock) : Type 0 where
  pub head : IsHead k.frame place b c
  pub rest : List DialectOp
  pub ops : c.ops ≡ front_for place k.hoisted ++ rest
  pub rows : Matched (IsRow k b) (rest_of b) rest
  pub phis : HasPhis k c.number (phis_of b)
  pub in_order : HasOrder left c

abbrev pub AreConverted : Known → List DialectBlock → Type 0
AreConverted k cs = (place : ℕ) (b : L.Block) (c : DialectBlock) → slice_get (blocks_of k.frame) place ≡ Some b → slice_get cs place ≡ Some c → IsConverted k (take place cs) place b c

-- ---- where values come from

-- the value is an argument of the type of p of a block, or the result of an operation of it of that type
pub data IsFrom (cs : List DialectBlock) (p : Placed) (w : Value) : Type 0 where
  FromArgument : (j i : ℕ) (c : DialectBlock) → slice_get cs j ≡ Some c → w ≡ V.Argument (record { 0 = c.number }) i → slice_get c.args i ≡ Some p.type → IsFrom cs p w
  FromResult : (j y : ℕ) (c : DialectBlock) (o : DialectOp) → slice_get cs j ≡ Some c → slice_get c.ops y ≡ Some o → w ≡ value_of o → o.result ≡ own_type p.type → IsFrom cs p w

-- each value that stands for an instruction does
abbrev pub AreFrom : Known → List DialectBlock → Type 0
AreFrom k cs = (i : ℕ) (p : Placed) (w : Value) → slice_get k.sources i ≡ Some p → slice_get k.done i ≡ Some w → IsFrom cs p w
