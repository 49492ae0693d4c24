-- A body is cut into blocks from its end.
use Rattle.std.proofs.Common.{◌≡◌, ◌≢◌, ◌+◌, ℕ, zero, suc, true, false, List, [], ◌∷◌, ◌++◌, Some, None, map, take, drop, length, slice_get, refl, ap, sym, ◌∙◌, subst, arith}
use Rattle.std.proofs.lemmas.List.{append_assoc, length-append}
use Rattle.support.proofs.ListLaws.{slice_get-behind, slice_get-kept}
use Rattle.llvm_core.specs.Data.{Trees}
use Rattle.ll_lines.specs.declared.lines.Part.{Part}
use Rattle.ll_lines.specs.declared.lines.Part.TheVariants.{Label, Does}
use Rattle.ll_lines.specs.declared.lines.Line as code_line
use Rattle.ll_lines.specs.declared.names.Name.{Name}
use Rattle.ll_lines.specs.Lines as L
use Rattle.ll_lines.specs.Views.{text_of, line_view, part_view}
use Rattle.ll_literals.specs.Chain.{◌>>=◌}
use Rattle.ll_bodies.specs.Meaning.{SaidBlock, ends_block, unlabelled, put_line, put_label, cut, blocks_of}
use Rattle.ll_bodies.specs.BlockViews.{BeginsWithLine, IsBehind, lines_of, lines_view}

-- what stands from a place on
pub drop_at : {A : Type 0} (xs : List A) (at : ℕ) (x : A) → slice_get xs at ≡ Some x → drop at xs ≡ x ∷ drop (suc at) xs
drop_at [] at x h = absurd cc
drop_at (y ∷ xs) zero x h = let same : y ≡ x = cc in ap (λ z. z ∷ xs) same
drop_at (y ∷ xs) (suc at) x h = drop_at xs at x h

-- the part at a place and those behind it
pub with_part : (parts : List Part) (at next size : ℕ) (p : Part) (lines : List Part) → slice_get parts at ≡ Some p → next ≡ suc at → size ≡ suc (length lines)
    → IsBehind parts next lines → take size (drop at parts) ≡ p ∷ lines
with_part parts at next size p lines h n s b =
    let there : take (length lines) (drop (suc at) parts) ≡ lines = rw n at b.there in
    rw (drop_at parts at p h, s) (ap (λ ps. p ∷ ps) there)

pub one_part : {A : Type 0} (parts : List A) (at size : ℕ) (p : A) → slice_get parts at ≡ Some p → size ≡ 1 → take size (drop at parts) ≡ p ∷ []
one_part parts at size p h s = rw (drop_at parts at p h, s) refl

pub behind_one : (parts : List Part) (at : ℕ) (l : code_line.Line) (lines : List Part) → slice_get parts at ≡ Some (Does l) → lines ≡ Does l ∷ [] → IsBehind parts at lines
behind_one parts at l lines h is = rw is (record { there = one_part parts at 1 (Does l) h refl; begins = tt })

pub behind_more : (parts : List Part) (at next : ℕ) (l : code_line.Line) (old lines : List Part) → slice_get parts at ≡ Some (Does l) → next ≡ suc at → IsBehind parts next old → lines ≡ Does l ∷ old → IsBehind parts at lines
behind_more parts at next l old lines h n b is = rw is (record { there = with_part parts at next (suc (length old)) (Does l) old h n refl b; begins = tt })

module _ (bytes : List ℕ) (t : Trees) (table : List L.SaidConst) where
  -- a line that ends a block
  pub put_ended : (l : code_line.Line) (old lines : List Part) (bs new : List SaidBlock) → BeginsWithLine old → ends_block (line_view bytes t table l) ≡ true
      → new ≡ unlabelled (lines_view bytes t table old) bs → lines ≡ Does l ∷ [] → put_line (line_view bytes t table l) (lines_view bytes t table old, bs) ≡ Some (lines_view bytes t table lines, new)
  put_ended l [] lines bs new b e n is = rw (e, n, is) refl
  put_ended l (Does m ∷ old) lines bs new b e n is = rw (e, n, is) refl
  put_ended l (Label m ∷ old) lines bs new b e n is = absurd b

  -- a line that ends none, with a line behind it
  pub put_more : (l : code_line.Line) (old lines : List Part) (bs : List SaidBlock) → BeginsWithLine old → ends_block (line_view bytes t table l) ≡ false
      → length old ≢ 0 → lines ≡ Does l ∷ old → put_line (line_view bytes t table l) (lines_view bytes t table old, bs) ≡ Some (lines_view bytes t table lines, bs)
  put_more l [] lines bs b e some is = absurd (some refl)
  put_more l (Does m ∷ old) lines bs b e some is = rw (e, is) refl
  put_more l (Label m ∷ old) lines bs b e some is = absurd b

  -- a part before what is cut
  pub cut_line : (parts : List Part) (at : ℕ) (l : code_line.Line) (x : List L.Line × List SaidBlock) (y : List L.Line × List SaidBlock) → slice_get parts at ≡ Some (Does l)
      → cut (map (part_view bytes t table) (drop (suc at) parts)) ≡ Some x → put_line (line_view bytes t table l) x ≡ Some y → cut (map (part_view bytes t table) (drop at parts)) ≡ Some y
  cut_line parts at l x y h c p = rw (drop_at parts at (Does l) h) (ap (λ o. o >>= put_line (line_view bytes t table l)) c ∙ p)

  pub cut_label : (parts : List Part) (at : ℕ) (n : Name) (x y : List L.Line × List SaidBlock) → slice_get parts at ≡ Some (Label n)
      → cut (map (part_view bytes t table) (drop (suc at) parts)) ≡ Some x → put_label (text_of bytes n) x ≡ Some y → cut (map (part_view bytes t table) (drop at parts)) ≡ Some y
  cut_label parts at n x y h c p = rw (drop_at parts at (Label n) h) (ap (λ o. o >>= put_label (text_of bytes n)) c ∙ p)

  -- what cannot be cut from a place on cannot be cut
  pub uncut_line : (parts : List Part) (at : ℕ) (l : code_line.Line) (x : List L.Line × List SaidBlock) → slice_get parts at ≡ Some (Does l)
      → cut (map (part_view bytes t table) (drop (suc at) parts)) ≡ Some x → put_line (line_view bytes t table l) x ≡ None → cut (map (part_view bytes t table) (drop at parts)) ≡ None
  uncut_line parts at l x h c p = rw (drop_at parts at (Does l) h) (ap (λ o. o >>= put_line (line_view bytes t table l)) c ∙ p)

  pub uncut_label : (parts : List Part) (at : ℕ) (n : Name) (x : List L.Line × List SaidBlock) → slice_get parts at ≡ Some (Label n)
      → cut (map (part_view bytes t table) (drop (suc at) parts)) ≡ Some x → put_label (text_of bytes n) x ≡ None → cut (map (part_view bytes t table) (drop at parts)) ≡ None
  uncut_label parts at n x h c p = rw (drop_at parts at (Label n) h) (ap (λ o. o >>= put_label (text_of bytes n)) c ∙ p)

  pub uncut_from : (parts : List Part) (at : ℕ) → cut (map (part_view bytes t table) (drop at parts)) ≡ None → cut (map (part_view bytes t table) parts) ≡ None
  uncut_from parts zero h = h
  uncut_from [] (suc at) h = h
  uncut_from (Does l ∷ parts) (suc at) h = rw (uncut_from parts at h) refl
  uncut_from (Label n ∷ parts) (suc at) h = rw (uncut_from parts at h) refl

  -- what is refused at a place is refused
  pub line_refused : (parts : List Part) (at next : ℕ) (l : code_line.Line) (x : List L.Line × List SaidBlock) → slice_get parts at ≡ Some (Does l) → next ≡ suc at
      → cut (map (part_view bytes t table) (drop next parts)) ≡ Some x → put_line (line_view bytes t table l) x ≡ None → blocks_of (map (part_view bytes t table) parts) ≡ None
  line_refused parts at next l x h n c p =
      let here = subst (λ (k : ℕ). cut (map (part_view bytes t table) (drop k parts)) ≡ Some x) n c in
      ap (λ o. o >>= λ (y : List L.Line × List SaidBlock). Some (unlabelled y.0 y.1)) (uncut_from parts at (uncut_line parts at l x h here p))

  pub label_refused : (parts : List Part) (at next : ℕ) (n : Name) (x : List L.Line × List SaidBlock) → slice_get parts at ≡ Some (Label n) → next ≡ suc at
      → cut (map (part_view bytes t table) (drop next parts)) ≡ Some x → put_label (text_of bytes n) x ≡ None → blocks_of (map (part_view bytes t table) parts) ≡ None
  label_refused parts at next n x h m c p =
      let here = subst (λ (k : ℕ). cut (map (part_view bytes t table) (drop k parts)) ≡ Some x) m c in
      ap (λ o. o >>= λ (y : List L.Line × List SaidBlock). Some (unlabelled y.0 y.1)) (uncut_from parts at (uncut_label parts at n x h here p))

  -- what is cut from a place on, where the next place is known
  pub line_cut : (parts : List Part) (at next : ℕ) (l : code_line.Line) (x y : List L.Line × List SaidBlock) → slice_get parts at ≡ Some (Does l) → next ≡ suc at
      → cut (map (part_view bytes t table) (drop next parts)) ≡ Some x → put_line (line_view bytes t table l) x ≡ Some y → cut (map (part_view bytes t table) (drop at parts)) ≡ Some y
  line_cut parts at next l x y h n c p = cut_line parts at l x y h (subst (λ (k : ℕ). cut (map (part_view bytes t table) (drop k parts)) ≡ Some x) n c) p

  pub label_cut : (parts : List Part) (at next : ℕ) (n : Name) (x y : List L.Line × List SaidBlock) → slice_get parts at ≡ Some (Label n) → next ≡ suc at
      → cut (map (part_view bytes t table) (drop next parts)) ≡ Some x → put_label (text_of bytes n) x ≡ Some y → cut (map (part_view bytes t table) (drop at parts)) ≡ Some y
  label_cut parts at next n x y h m c p = cut_label parts at n x y h (subst (λ (k : ℕ). cut (map (part_view bytes t table) (drop k parts)) ≡ Some x) m c) p

pub behind_none : (parts : List Part) (at : ℕ) (lines : List Part) → lines ≡ [] → IsBehind parts at lines
behind_none parts at lines is = rw is (record { there = refl; begins = tt })

-- ---- lines in order

-- the parts before a place hold so many lines as the number has gone up
pub record Reached (parts : List Part) (at first number : ℕ) : Type 0 where
  pub done : List code_line.Line
  pub is : lines_of parts ≡ done ++ lines_of (drop at parts)
  pub count : first + length done ≡ number

pub reached_none : (parts : List Part) (first : ℕ) → Reached parts 0 first first
reached_none parts first = record { done = []; is = refl; count = omega arith }

pub lines_append : (ps qs : List Part) → lines_of (ps ++ qs) ≡ lines_of ps ++ lines_of qs
lines_append [] qs = refl
lines_append (Label n ∷ ps) qs = lines_append ps qs
lines_append (Does l ∷ ps) qs = ap (λ ls. l ∷ ls) (lines_append ps qs)

-- the lines from a place on are those of the part there and those behind it
pub lines_at : (parts : List Part) (at next : ℕ) (p : Part) → slice_get parts at ≡ Some p → next ≡ suc at → lines_of (drop at parts) ≡ lines_of (p ∷ []) ++ lines_of (drop next parts)
lines_at parts at next p h e = rw e (ap lines_of (drop_at parts at p h) ∙ lines_append (p ∷ []) (drop (suc at) parts))

pub reached_more : (parts : List Part) (at next first number more : ℕ) (p : Part) → slice_get parts at ≡ Some p → next ≡ suc at → more ≡ number + length (lines_of (p ∷ [])) → Reached parts at first number → Reached parts next first more
reached_more parts at next first number more p h e m r =
    let size = length-append r.done (lines_of (p ∷ [])) in
    record {
      done = r.done ++ lines_of (p ∷ []);
      is = r.is ∙ ap (λ ls. r.done ++ ls) (lines_at parts at next p h e) ∙ sym (append_assoc r.done (lines_of (p ∷ [])) (lines_of (drop next parts)));
      count = omega (arith, size, m, r.count);
    }

-- a line of the part at a place stands among the lines of all
pub line_reached : (parts : List Part) (at next first number j : ℕ) (p : Part) (l : code_line.Line) → slice_get parts at ≡ Some p → next ≡ suc at → Reached parts at first number
    → slice_get (lines_of (p ∷ [])) j ≡ Some l → (k : ℕ) × (slice_get (lines_of parts) k ≡ Some l) × (first + k ≡ number + j)
line_reached parts at next first number j p l h e r there =
    let is : lines_of parts ≡ r.done ++ (lines_of (p ∷ []) ++ lines_of (drop next parts)) = r.is ∙ ap (λ ls. r.done ++ ls) (lines_at parts at next p h e) in
    let behind = slice_get-behind r.done (lines_of (p ∷ []) ++ lines_of (drop next parts)) j in
    (length r.done + j, ap (λ ls. slice_get ls (length r.done + j)) is ∙ behind ∙ slice_get-kept (lines_of (p ∷ [])) (lines_of (drop next parts)) j l there, omega (arith, r.count))
