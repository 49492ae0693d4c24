-- How far the printing of a list has come.
use Rattle.std.proofs.Common.{◌≡◌, ℕ, List, ◌++◌, length, take, map, Ok, Err, sym, ap, ◌∙◌, append_assoc}
use Rattle.std.proofs.Math.Seq.{take-length}
use Rattle.std.specs.Prelude.{OnOk, Result, codes, is_ok, if◌then◌else◌}
use Rattle.std.specs.Fmt.{decimal}
use Rattle.support.specs.Appended.{Keeps}
use Rattle.dialect_types.specs.Text.{joined, type_text}
use Rattle.dialect_types.specs.Trees.{TypeTree, type_at}
use Rattle.dialect_types.specs.declared.types.TypeHandle.{TypeHandle}
use Rattle.const_attrs.specs.Text.{attr_text, attr_texts, inner_type_text}
use Rattle.const_attrs.specs.Trees.{Attr, Attrs, IntegerAttr, AggregateAttr, SplatAttr, attr_tree, attr_trees}

-- of the items the first i stand after what was there, with commas between them
pub record PrintedItems {X : Type 0} (text : X → List ℕ) (items : List X) (i : ℕ) (start after : List ℕ) : Type 0 where
  pub printed : after ≡ start ++ joined (map text (take i items))
  pub kept : Keeps start after

-- the pieces of an integer, one after another
pub integer_printed : {E : Type 0} (r : Result (Unit {0}) E) (t : TypeTree) (v : ℕ) (o head number colon type end : List ℕ)
    → head ≡ o ++ codes "builtin.integer <" → number ≡ head ++ decimal v → colon ≡ number ++ codes ": " → type ≡ colon ++ inner_type_text t
    → end ≡ (if is_ok r then type ++ codes ">" else type)
    → OnOk r (end ≡ o ++ attr_text (IntegerAttr t v))
integer_printed (Ok done) t v o head number colon type end e1 e2 e3 e4 e5 = simp (e5, e4, e3, e2, e1, append_assoc)
integer_printed (Err fault) t v o head number colon type end e1 e2 e3 e4 e5 = tt

-- three pieces, one after another
pub three_printed : (a b c o head middle end : List ℕ) → head ≡ o ++ a → middle ≡ head ++ b → end ≡ middle ++ c → end ≡ o ++ (a ++ (b ++ c))
three_printed a b c o head middle end e1 e2 e3 = simp (e3, e2, e1, append_assoc)

-- three pieces, of which the last may fail
pub three_extended : {E : Type 0} (r : Result (Unit {0}) E) (a b c o head middle end : List ℕ) → head ≡ o ++ a → middle ≡ head ++ b → end ≡ (if is_ok r then middle ++ c else middle) → OnOk r (end ≡ o ++ (a ++ (b ++ c)))
three_extended (Ok done) a b c o head middle end e1 e2 e3 = three_printed a b c o head middle end e1 e2 e3
three_extended (Err fault) a b c o head middle end e1 e2 e3 = tt

-- all of the items have been appended
pub all_items : {X : Type 0} (text : X → List ℕ) (items : List X) (n : ℕ) (start after : List ℕ) → n ≡ length items → after ≡ start ++ joined (map text (take n items)) → after ≡ start ++ joined (map text items)
all_items {X} text items n start after all printed = printed ∙ ap (λ (ys : List X). start ++ joined (map text ys)) (ap (λ (k : ℕ). take k items) all ∙ take-length items)

-- the pieces of an aggregate, one after another
pub aggregate_printed : (ts : List TypeTree) (cs : Attrs TypeHandle) (t : TypeHandle) (d : Attr TypeHandle) (o head middle end : List ℕ) → d ≡ AggregateAttr cs t
    → head ≡ o ++ codes "llvm.aggregate <[" → middle ≡ head ++ joined (attr_texts (attr_trees ts cs)) → end ≡ middle ++ (codes "] : " ++ type_text (type_at ts t) ++ codes ">") → end ≡ o ++ attr_text (attr_tree ts d)
aggregate_printed ts cs t d o head middle end is e1 e2 e3 =
    three_printed (codes "llvm.aggregate <[") (joined (attr_texts (attr_trees ts cs))) (codes "] : " ++ type_text (type_at ts t) ++ codes ">") o head middle end e1 e2 e3
    ∙ ap (λ (x : List ℕ). o ++ x) (simp append_assoc)
    ∙ ap (λ (x : Attr TypeHandle). o ++ attr_text (attr_tree ts x)) (sym is)

-- the pieces of a splat, one after another
pub splat_printed : (ts : List TypeTree) (c : Attr TypeHandle) (t : TypeHandle) (d : Attr TypeHandle) (o head middle end : List ℕ) → d ≡ SplatAttr c t
    → head ≡ o ++ codes "llvm.splat <" → middle ≡ head ++ attr_text (attr_tree ts c) → end ≡ middle ++ (codes " : " ++ type_text (type_at ts t) ++ codes ">") → end ≡ o ++ attr_text (attr_tree ts d)
splat_printed ts c t d o head middle end is e1 e2 e3 =
    three_printed (codes "llvm.splat <") (attr_text (attr_tree ts c)) (codes " : " ++ type_text (type_at ts t) ++ codes ">") o head middle end e1 e2 e3
    ∙ ap (λ (x : List ℕ). o ++ x) (simp append_assoc)
    ∙ ap (λ (x : Attr TypeHandle). o ++ attr_text (attr_tree ts x)) (sym is)
