-- Terms in a table, each with its parts by the places of earlier ones.
use Rattle.std.specs.Prelude.{◌≡◌, ◌<◌, ℕ, List, [], ◌++◌, Option, Some, All, map, slice_get, slice_index_or}
use Rattle.kinds.specs.declared.fill.Fill.{Fill}
use Rattle.llvm_core.specs.Data.{TypeTree, trees_after, type_at}
use Rattle.meaning.specs.Terms as M
use Rattle.meaning.specs.Terms.{Term, Unset, terms_of}
use Rattle.meaning.specs.Constants.{fill_of}
use Rattle.meaning.specs.Pairs.{Matched}
use Rattle.tracing.specs.declared.table.TermNode.{TermNode}
use Rattle.tracing.specs.declared.table.TermNode.TheVariants as N

-- the term at a place
abbrev pub term_at : List Term → ℕ → Term
term_at ts k = slice_index_or ts k Unset

-- the term of a node, whose type is among those trees and its parts among those terms
abbrev pub node_term : List TypeTree → List Term → TermNode → Term
node_term trees ts (N.Param i) = M.Param i
node_term trees ts (N.Answer n) = M.Answer n
node_term trees ts N.Unset = Unset
node_term trees ts (N.Int w v) = M.Int w v
node_term trees ts (N.Filled fill ty) = M.Filled fill (type_at trees ty)
node_term trees ts (N.ListOf ty ks) = M.ListOf (type_at trees ty) (terms_of (map (term_at ts) ks))
node_term trees ts (N.SplatOf ty k) = M.SplatOf (type_at trees ty) (term_at ts k)
node_term trees ts (N.Expr o ty ks) = M.Expr o (type_at trees ty) (terms_of (map (term_at ts) ks))

-- the terms of a table, each made of earlier ones, with types among those trees
abbrev pub terms : List TypeTree → List TermNode → List Term
terms trees ns = trees_after (node_term trees) [] ns

-- the parts of a node are places below n
abbrev pub HasPartsBelow : ℕ → TermNode → Type 0
HasPartsBelow n (N.ListOf ty ks) = All (λ (k : ℕ). k < n) ks
HasPartsBelow n (N.SplatOf ty k) = k < n
HasPartsBelow n (N.Expr o ty ks) = All (λ (k : ℕ). k < n) ks
HasPartsBelow n _ = Unit {0}

-- the parts of each stand before it
abbrev pub IsGrounded : List TermNode → Type 0
IsGrounded ns = (i : ℕ) (n : TermNode) → slice_get ns i ≡ Some n → HasPartsBelow i n

-- the type of a node is a number below n
abbrev pub HasTypeBelow : ℕ → TermNode → Type 0
HasTypeBelow n (N.Filled fill ty) = ty.0 < n
HasTypeBelow n (N.ListOf ty ks) = ty.0 < n
HasTypeBelow n (N.SplatOf ty k) = ty.0 < n
HasTypeBelow n (N.Expr o ty ks) = ty.0 < n
HasTypeBelow n _ = Unit {0}

-- the types of all are numbers below n
abbrev pub AreTyped : ℕ → List TermNode → Type 0
AreTyped n ns = (i : ℕ) (x : TermNode) → slice_get ns i ≡ Some x → HasTypeBelow n x

-- the table has grown at its end or not at all, and the term stands at that place
pub record Gives (trees : List TypeTree) (old new : List TermNode) (k : ℕ) (t : Term) : Type 0 where
  pub more : List TermNode
  pub grown : new ≡ old ++ more
  pub here : slice_get (terms trees new) k ≡ Some t

-- ---- terms at places

-- the term stands at that place
abbrev pub IsTermAt : List Term → ℕ → Term → Type 0
IsTermAt ts k t = slice_get ts k ≡ Some t

-- the terms stand at those places
abbrev pub AreTermsAt : List Term → List ℕ → List Term → Type 0
AreTermsAt ts ks us = Matched (IsTermAt ts) ks us

-- what stood at a place stands there
abbrev pub KeepsTerms : List Term → List Term → Type 0
KeepsTerms old new = (k : ℕ) (t : Term) → IsTermAt old k t → IsTermAt new k t

-- zero, undef or poison, where the terms at places are that
abbrev pub fills_at : List Term → List ℕ → List (Option Fill)
fills_at ts ks = map (λ (k : ℕ). fill_of (term_at ts k)) ks
