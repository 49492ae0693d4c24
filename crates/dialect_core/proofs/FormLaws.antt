-- A well-formed function of its own values that is narrow is of the form.
use Rattle.std.proofs.Common.{◌≡◌, nat_eq, List, [], ◌∷◌, Option, Some, None, All, slice_get, ap, subst, ◌∙◌, refl}
use Rattle.std.specs.Prelude.{IfSome}
use Rattle.std.specs.List.{find}
use Rattle.std.specs.Option.{option_and_then}
use Rattle.std.proofs.lemmas.Option.{none-some, same_Some}
use Rattle.support.proofs.ListLaws.{all_from}
use Rattle.kinds.specs.Types.{TypeTree, params_of}
use Rattle.kinds.specs.Held.{IsHeld}
use Rattle.dialect_core.specs.declared.ops.Value.{Value}
use Rattle.dialect_core.specs.declared.ops.Value.TheVariants.{Result, Argument}
use Rattle.dialect_core.specs.declared.ops.Successor.{Successor}
use Rattle.dialect_core.specs.Data.{DialectOp, DialectBlock, Func, ops_in, value_type}
use Rattle.dialect_core.specs.Form.{IsHeldValue, IsFormOp, IsFormBlock, IsFormFunc}
use Rattle.dialect_core.specs.WellFormed.{IsEdge, IsWellFormedOp, IsWellFormedBlock, IsWellFormedFunc, IsNarrowOp, IsNarrowBlock, IsNarrowFunc, IsTypedBy}
use Rattle.dialect_core.proofs.HoldLemmas.{flat_stands}
use Rattle.dialect_core.proofs.FuncLemmas.{find_there}
use Rattle.dialect_core.proofs.LineLemmas.{all_at}
use Rattle.dialect_core.proofs.RuleLemmas.{kind_edges, kind_operands}

held_of : (o : Option TypeTree) (t : TypeTree) → IfSome o IsHeld → o ≡ Some t → IsHeld t
held_of None t h e = absurd (none-some t e)
held_of (Some s) t h e = subst IsHeld (same_Some s t e) h

module _ (g : Func) (narrow : All IsNarrowBlock g.blocks) where
  -- every value of the function is of a type that is translated
  held : (v : Value) (t : TypeTree) → value_type g v ≡ Some t → IsHeld t
  held (Result r) t h = by (find (λ (o : DialectOp). nat_eq o.number r.0) (ops_in g)) refl h
    where
      by : (o : Option DialectOp) → find (λ (o : DialectOp). nat_eq o.number r.0) (ops_in g) ≡ o → option_and_then (λ (o : DialectOp). o.result) o ≡ Some t → IsHeld t
      by None is e = absurd (none-some t e)
      by (Some o) is e =
          let w = find_there (λ (o : DialectOp). nat_eq o.number r.0) (ops_in g) o is in
          let b = flat_stands (λ (b : DialectBlock). b.ops) g.blocks o w.0 w.1 in
          held_of o.result t (all_at IsNarrowOp b.0.ops (all_at IsNarrowBlock g.blocks narrow b.1.0 b.0 b.1.1).ops b.2.0 o b.2.1).0 e
  held (Argument b i) t h = by (find (λ (x : DialectBlock). nat_eq x.number b.0) g.blocks) refl h
    where
      by : (x : Option DialectBlock) → find (λ (x : DialectBlock). nat_eq x.number b.0) g.blocks ≡ x → option_and_then (λ (x : DialectBlock). slice_get x.args i) x ≡ Some t → IsHeld t
      by None is e = absurd (none-some t e)
      by (Some x) is e =
          let w = find_there (λ (x : DialectBlock). nat_eq x.number b.0) g.blocks x is in
          all_at IsHeld x.args (all_at IsNarrowBlock g.blocks narrow w.0 x w.1).args i t e

  -- and so is each value that there is
  typed_held : (vs : List Value) → All (IsTypedBy (value_type g)) vs → All (IsHeldValue g) vs
  typed_held vs h = all_from (IsHeldValue g) vs (λ k v at. let w = all_at (IsTypedBy (value_type g)) vs h k v at in (w.0, record { typed = w.1; held = held v w.0 w.1 }))

  form_op : (o : DialectOp) → IsWellFormedOp (value_type g) g o → IsNarrowOp o → IsFormOp g o
  form_op o w n =
      let edges = kind_edges (value_type g) g o.operands o.result o.successors o.kind w in
      record {
        kind = w;
        operands = typed_held o.operands (kind_operands (value_type g) g o.operands o.result o.successors o.kind w);
        passed = all_from (λ (s : Successor). All (IsHeldValue g) s.args) o.successors (λ k s at. typed_held s.args (all_at (IsEdge (value_type g) g) o.successors edges k s at).args);
        result = n.0;
        short = n.1;
      }

  form_block : (b : DialectBlock) → IsWellFormedBlock (value_type g) g b → IsNarrowBlock b → IsFormBlock g b
  form_block b w n = record {
    args = n.args;
    ops = all_from (IsFormOp g) b.ops (λ k o at. form_op o (all_at (IsWellFormedOp (value_type g) g) b.ops w.ops k o at) (all_at IsNarrowOp b.ops n.ops k o at));
    ends = w.ends;
  }

-- the first block, and the others
pub record Body (bs : List DialectBlock) : Type 0 where
  pub entry : DialectBlock
  pub more : List DialectBlock
  pub are : bs ≡ entry ∷ more

body_of : (bs : List DialectBlock) → ¬ (bs ≡ []) → Body bs
body_of [] some = absurd (some refl)
body_of (b ∷ bs) some = record { entry = b; more = bs; are = refl }

pub form_of : (g : Func) → IsWellFormedFunc (value_type g) g → IsNarrowFunc g → IsFormFunc g
form_of g w n =
    let p = n.signature in
    let b = body_of g.blocks n.body in
    record {
      named = w.named;
      llvm_named = w.llvm_named;
      good = n.good;
      result = p.result;
      types = p.params;
      type = p.is;
      returns = p.returns;
      takes = p.takes;
      shallow = p.shallow;
      linkage = n.linkage;
      entry = b.entry;
      more = b.more;
      body = b.are;
      params = w.params b.entry (ap (λ (bs : List DialectBlock). slice_get bs 0) b.are) ∙ ap params_of p.is;
      blocks = all_from (IsFormBlock g) g.blocks (λ k b at. form_block g n.blocks b (all_at (IsWellFormedBlock (value_type g) g) g.blocks w.blocks k b at) (all_at IsNarrowBlock g.blocks n.blocks k b at));
      block_numbers = w.block_numbers;
      numbers = w.numbers;
    }
