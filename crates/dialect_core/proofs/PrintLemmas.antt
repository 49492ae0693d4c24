-- How far the printing of items one after another has come.
use Rattle.std.proofs.Common.{◌≡◌, ◌<◌, ◌≤◌, ◌+◌, ℕ, List, [], ◌∷◌, ◌++◌, Option, Some, None, length, get_or, take, map, ap, sym, refl, ◌∙◌, append_assoc}
use Rattle.std.specs.Prelude.{codes}
use Rattle.std.specs.List.{flat_map}
use Rattle.std.proofs.lemmas.List.{append-nil, take_all}
use Rattle.std.proofs.lemmas.Option.{same_Some}
use Rattle.std.specs.Option.{option_map}
use Rattle.support.proofs.ListLaws.{flat_map-take_more, appended_twice}
use Rattle.dialect_types.specs.Trees.{TypeTree, type_at}
use Rattle.dialect_core.specs.declared.numbers.OpRef.{OpRef}
use Rattle.dialect_core.specs.declared.numbers.BlockRef.{BlockRef}
use Rattle.dialect_core.specs.declared.ops.Value.{Value}
use Rattle.dialect_core.specs.declared.ops.Successor.{Successor}
use Rattle.dialect_core.specs.declared.ops.OpData.{OpData}
use Rattle.dialect_core.specs.Data.{Kind, kind_of, op_of}
use Rattle.dialect_core.specs.Text.{option_text, kind_word, immediates_text, head_text, tail_text, op_text, successor_text, successors_text}
use Rattle.dialect_types.specs.Text.{joined, comma_before}
use Rattle.dialect_types.proofs.TextLemmas.{joined_step}

-- the first i items stand after what was there, with commas between them
pub record Joined {X : Type 0} (f : X → List ℕ) (xs : List X) (i : ℕ) (before after : List ℕ) : Type 0 where
  pub printed : after ≡ before ++ joined (map f (take i xs))

pub joined_more : {X : Type 0} (f : X → List ℕ) (xs : List X) (i : ℕ) (d : X) (start before comma after text : List ℕ) → i < length xs → Joined f xs i start before → comma ≡ before ++ comma_before i → text ≡ f (get_or xs i d) → after ≡ comma ++ text → Joined f xs (i + 1) start after
joined_more f xs i d start before comma after text within so_far with_comma is with_text = record { printed = joined_step f xs i d start before comma after within so_far.printed with_comma (with_text ∙ ap (λ (x : List ℕ). comma ++ x) is) }

pub joined_all : {X : Type 0} (f : X → List ℕ) (xs : List X) (i : ℕ) (before after : List ℕ) → length xs ≤ i → Joined f xs i before after → after ≡ before ++ joined (map f xs)
joined_all f xs i before after all h = h.printed ∙ ap (λ (ys : List _). before ++ joined (map f ys)) (take_all i xs all)

-- the texts of the first i items stand after what was there
pub record Printed {X : Type 0} (f : X → List ℕ) (xs : List X) (i : ℕ) (before after : List ℕ) : Type 0 where
  pub printed : after ≡ before ++ flat_map f (take i xs)

pub printed_more : {X : Type 0} (f : X → List ℕ) (xs : List X) (i : ℕ) (d : X) (start before after : List ℕ) → i < length xs → Printed f xs i start before → after ≡ before ++ f (get_or xs i d) → Printed f xs (i + 1) start after
printed_more f xs i d start before after within so_far step = record {
  printed = step ∙ ap (λ (x : List ℕ). x ++ f (get_or xs i d)) so_far.printed ∙ append_assoc start (flat_map f (take i xs)) (f (get_or xs i d)) ∙ ap (λ (x : List ℕ). start ++ x) (sym (flat_map-take_more f xs i d within));
}

pub printed_all : {X : Type 0} (f : X → List ℕ) (xs : List X) (i : ℕ) (before after : List ℕ) → length xs ≤ i → Printed f xs i before after → after ≡ before ++ flat_map f xs
printed_all f xs i before after all h = h.printed ∙ ap (λ (ys : List _). before ++ flat_map f ys) (take_all i xs all)

-- a text between two others
pub between : (start opened inner end a b c : List ℕ) → opened ≡ start ++ a → inner ≡ opened ++ b → end ≡ inner ++ c → end ≡ start ++ ((a ++ b) ++ c)
between start opened inner end a b c e1 e2 e3 = appended_twice start inner end (a ++ b) c (appended_twice start opened inner a b e1 e2) e3

-- ---- operations

module _ (values : Value → Option ℕ) (blocks : BlockRef → Option ℕ) where
  head_same : {X Y : Type 0} (f : X → Y) (n : ℕ) (name : Option (List ℕ)) (r : Option X) (word : List ℕ) (operands : List Value) (successors : List Successor) → head_text values blocks n name r word operands successors ≡ head_text values blocks n name (option_map f r) word operands successors
  head_same f n name None word operands successors = refl
  head_same f n name (Some t) word operands successors = refl

  -- an operation of a kind that has a word
  pub op_printed : (ts : List TypeTree) (o : OpRef) (x : OpData) (word start head middle end : List ℕ)
      → Some word ≡ option_map kind_word (kind_of ts x.kind)
      → head ≡ start ++ head_text values blocks o.0 x.name x.result word x.operands x.successors
      → middle ≡ head ++ option_text immediates_text (kind_of ts x.kind) → end ≡ middle ++ tail_text (option_map (type_at ts) x.result)
      → end ≡ start ++ option_text (op_text values blocks) (op_of ts o x)
  op_printed ts o x word start head middle end named e1 e2 e3 = by (kind_of ts x.kind) refl
    where
      by : (k : Option Kind) → kind_of ts x.kind ≡ k → end ≡ start ++ option_text (op_text values blocks) (op_of ts o x)
      by None is = absurd (let no : Some word ≡ None = named ∙ ap (option_map kind_word) is in cc)
      by (Some k) is =
          let same : word ≡ kind_word k = same_Some word (kind_word k) (named ∙ ap (option_map kind_word) is) in
          let headed : head ≡ start ++ head_text values blocks o.0 x.name (option_map (type_at ts) x.result) (kind_word k) x.operands x.successors = e1
          ∙ ap (λ (h : List ℕ). start ++ h) (head_same (type_at ts) o.0 x.name x.result word x.operands x.successors)
          ∙ ap (λ (w : List ℕ). start ++ head_text values blocks o.0 x.name (option_map (type_at ts) x.result) w x.operands x.successors) same in
          rw is (between start head middle end _ (immediates_text k) _ headed (e2 ∙ ap (λ (y : Option Kind). head ++ option_text immediates_text y) is) e3)

  -- an operation of a kind without a word is none of a block
  pub op_left_out : (ts : List TypeTree) (o : OpRef) (x : OpData) (start : List ℕ) → None ≡ option_map kind_word (kind_of ts x.kind) → start ≡ start ++ option_text (op_text values blocks) (op_of ts o x)
  op_left_out ts o x start unnamed = by (kind_of ts x.kind) refl
    where
      by : (k : Option Kind) → kind_of ts x.kind ≡ k → start ≡ start ++ option_text (op_text values blocks) (op_of ts o x)
      by None is = rw is (sym (append-nil start))
      by (Some k) is = absurd (let no : None ≡ Some (kind_word k) = unnamed ∙ ap (option_map kind_word) is in cc)

  -- successors in brackets
  pub successors_printed : (ss : List Successor) (start opened inner end : List ℕ) → ¬ (length ss ≡ 0) → opened ≡ start ++ codes "[" → inner ≡ opened ++ joined (map (successor_text values blocks) ss) → end ≡ inner ++ codes "]" → end ≡ start ++ successors_text values blocks ss
  successors_printed [] start opened inner end some e1 e2 e3 = absurd (some refl)
  successors_printed (s ∷ ss) start opened inner end some e1 e2 e3 = between start opened inner end (codes "[") (joined (map (successor_text values blocks) (s ∷ ss))) (codes "]") e1 e2 e3
