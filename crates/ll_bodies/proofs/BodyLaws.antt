-- Bodies that are made line by line and block by block.
use Rattle.std.proofs.Common.{◌≡◌, ◌≤◌, ℕ, suc, ◌+◌, List, [], ◌∷◌, ◌++◌, Option, Some, None, map, take, drop, length, slice_get, refl, ap, sym, ◌∙◌, subst, arith}
use Rattle.std.proofs.lemmas.List.{drop_all, append-nil, append_assoc, map-append, length-map, length-append, take-append-drop, take_all}
use Rattle.support.proofs.ListLaws.{take_next}
use Rattle.llvm_core.specs.Data.{Trees, Placed, Block}
use Rattle.ll_lines.specs.declared.lines.Part.{Part}
use Rattle.ll_lines.specs.declared.lines.Line as code_line
use Rattle.ll_lines.specs.Lines as L
use Rattle.ll_literals.specs.Chain.{◌>>=◌}
use Rattle.ll_bodies.specs.declared.blocks.SaidBlock as code_block
use Rattle.llvm_core.specs.declared.code.InstData.{InstData}
use Rattle.llvm_core.specs.declared.bodies.BodyBlock.{BodyBlock}
use Rattle.ll_bodies.specs.declared.results.Source.{Source}
use Rattle.ll_bodies.specs.declared.scope.Scope as code
use Rattle.ll_bodies.specs.Scopes.{Scope, written_name, label_key}
use Rattle.ll_bodies.specs.Meaning.{SaidBlock, all_from, placed, blocks_data}
use Rattle.ll_bodies.specs.BlockViews.{lines_of}
use Rattle.ll_bodies.specs.ScopeViews.{Knows, Refuses}
use Rattle.ll_bodies.specs.SourceViews.{structs_in, types_in, source_trees, line_in, lines_in, block_in, count_lines}
use Rattle.llvm_core.specs.Bodies.{placed_from, blocks_from}
use Rattle.ll_bodies.specs.BodyViews.{placed_one, count_body, Made, Extends, MadeBlocks}
use Rattle.ll_bodies.proofs.BlockLaws.{drop_at, lines_at}

-- ---- lists that are made in two parts

joined : {B : Type 0} (r : Option (List B)) (y : B) (done : List B) → (r >>= λ zs. Some (y ∷ (done ++ zs))) ≡ ((r >>= λ zs. Some (done ++ zs)) >>= λ ys. Some (y ∷ ys))
joined None y done = refl
joined (Some zs) y done = refl

nothing_before : {B : Type 0} (r : Option (List B)) → r ≡ (r >>= λ zs. Some zs)
nothing_before None = refl
nothing_before (Some zs) = refl

module _ {A B : Type 0} (f : ℕ → A → Option B) where
  -- what is made of two lists, of which the first means something
  pub all_joined : (n : ℕ) (xs ys : List A) (made : List B) → all_from f n xs ≡ Some made → all_from f n (xs ++ ys) ≡ (all_from f (n + length xs) ys >>= λ zs. Some (made ++ zs))
  all_joined n [] ys made h =
      let same : [] ≡ made = cc in
      let e : n ≡ n + 0 = omega arith in
      ap (λ k. all_from f k ys) e ∙ subst (λ (zs : List B). all_from f (n + 0) ys ≡ (all_from f (n + 0) ys >>= λ ws. Some (zs ++ ws))) same (nothing_before (all_from f (n + 0) ys))
  all_joined n (x ∷ xs) ys made h = by (f n x) (all_from f (suc n) xs) made h (λ rest e. all_joined (suc n) xs ys rest e)
    where
      by : (o : Option B) (r : Option (List B)) (made : List B) → (o >>= λ y. r >>= λ zs. Some (y ∷ zs)) ≡ Some made
          → ((rest : List B) → r ≡ Some rest → all_from f (suc n) (xs ++ ys) ≡ (all_from f (suc n + length xs) ys >>= λ zs. Some (rest ++ zs)))
          → (o >>= λ y. all_from f (suc n) (xs ++ ys) >>= λ zs. Some (y ∷ zs)) ≡ (all_from f (n + suc (length xs)) ys >>= λ zs. Some (made ++ zs))
      by None r made h k = absurd cc
      by (Some y) None made h k = absurd cc
      by (Some y) (Some rest) made h k =
          let same : y ∷ rest ≡ made = cc in
          let e : suc n + length xs ≡ n + suc (length xs) = omega arith in
          ap (λ r. r >>= λ zs. Some (y ∷ zs)) (k rest refl)
          ∙ sym (joined (all_from f (suc n + length xs) ys) y rest)
          ∙ ap (λ m. all_from f m ys >>= λ zs. Some (y ∷ (rest ++ zs))) e
          ∙ ap (λ ws. all_from f (n + suc (length xs)) ys >>= λ zs. Some (ws ++ zs)) same

pub placed_joined : (t : Trees) (n : ℕ) (xs ys : List InstData) → placed_from t n xs ++ placed_from t (n + length xs) ys ≡ placed_from t n (xs ++ ys)
placed_joined t n [] ys = let e : n + 0 ≡ n = omega arith in ap (λ k. placed_from t k ys) e
placed_joined t n (x ∷ xs) ys =
    let e : n + suc (length xs) ≡ n + 1 + length xs = omega arith in
    ap (λ k. placed_one t n x ∷ (placed_from t (n + 1) xs ++ placed_from t k ys)) e ∙ ap (λ zs. placed_one t n x ∷ zs) (placed_joined t (n + 1) xs ys)

module _ (source : Source) (scope : code.Scope) where
  abbrev all_placed : Scope → ℕ → List code_line.Line → Option (List Placed)
  all_placed s n ls = all_from (placed (structs_in source) s) n (map (line_in source) ls)

  -- ---- a line

  -- one more instruction, which is what a line means
  pub one_extends : (l : code_line.Line) (old new : List InstData) (x : InstData) → ((s : Scope) (n : ℕ) → Knows (types_in source) scope s → placed (structs_in source) s n (line_in source l) ≡ Some (placed_one (source_trees source) n x))
      → new ≡ old ++ x ∷ [] → Extends source scope (l ∷ []) old new
  one_extends l old new x is e = record { more = x ∷ []; is = e; made = record { count = refl; is = λ s n knows. ap (λ o. o >>= λ y. Some (y ∷ [])) (is s n knows) } }

  pub one_unmade : (l : code_line.Line) → ((n : ℕ) → Refuses (types_in source) scope (λ s. placed (structs_in source) s n (line_in source l)))
      → (n : ℕ) → Refuses (types_in source) scope (λ s. all_from (placed (structs_in source) s) n (line_in source l ∷ []))
  one_unmade l r n = λ s knows. ap (λ o. o >>= λ y. Some (y ∷ [])) (r n s knows)

  -- ---- lines

  pub made_none : Made source scope [] []
  made_none = record { count = refl; is = λ s n h. refl }

  pub made_joined : (xs ys : List code_line.Line) (a b : List InstData) → Made source scope xs a → Made source scope ys b → Made source scope (xs ++ ys) (a ++ b)
  made_joined xs ys a b h k =
      let sizes = length-append xs ys in
      let size = length-append a b in
      record {
        count = omega (arith, sizes, size, h.count, k.count);
        is = λ s n knows.
            let many = length-map xs (line_in source) in
            let e : n + length (map (line_in source) xs) ≡ n + length a = omega (arith, many, h.count) in
            ap (all_from (placed (structs_in source) s) n) (map-append (line_in source) xs ys)
            ∙ all_joined (placed (structs_in source) s) n (map (line_in source) xs) (map (line_in source) ys) _ (h.is s n knows)
            ∙ ap (λ m. all_from (placed (structs_in source) s) m (map (line_in source) ys) >>= λ zs. Some (placed_from (source_trees source) n a ++ zs)) e
            ∙ ap (λ o. o >>= λ zs. Some (placed_from (source_trees source) n a ++ zs)) (k.is s (n + length a) knows)
            ∙ ap (λ zs. Some zs) (placed_joined (source_trees source) n a b);
      }

  -- the instructions of the lines before a place
  pub record MadeUpTo (parts : List Part) (at : ℕ) (insts : List InstData) : Type 0 where
    pub done : List code_line.Line
    pub is : lines_of parts ≡ done ++ lines_of (drop at parts)
    pub made : Made source scope done insts

  pub up_to_none : (parts : List Part) → MadeUpTo parts 0 []
  up_to_none parts = record { done = []; is = refl; made = made_none }

  pub up_to_more : (parts : List Part) (at next : ℕ) (p : Part) (old new : List InstData) → slice_get parts at ≡ Some p → next ≡ suc at → MadeUpTo parts at old → Extends source scope (lines_of (p ∷ [])) old new → MadeUpTo parts next new
  up_to_more parts at next p old new h e m x = record {
    done = m.done ++ lines_of (p ∷ []);
    is = m.is ∙ ap (λ ls. m.done ++ ls) (lines_at parts at next p h e) ∙ sym (append_assoc m.done (lines_of (p ∷ [])) (lines_of (drop next parts)));
    made = subst (Made source scope (m.done ++ lines_of (p ∷ []))) (sym x.is) (made_joined m.done (lines_of (p ∷ [])) old x.more m.made x.made);
  }

  pub up_to_all : (parts : List Part) (at : ℕ) (made : List InstData) → length parts ≤ at → MadeUpTo parts at made → Made source scope (lines_of parts) made
  up_to_all parts at made past m =
      let e : lines_of parts ≡ m.done = m.is ∙ ap (λ ps. m.done ++ lines_of ps) (drop_all at parts past) ∙ append-nil m.done in
      subst (λ ls. Made source scope ls made) (sym e) m.made

  none_joined : (s : Scope) (n : ℕ) (xs ys : List L.Line) → all_from (placed (structs_in source) s) n xs ≡ None → all_from (placed (structs_in source) s) n (xs ++ ys) ≡ None
  none_joined s n [] ys h = absurd cc
  none_joined s n (x ∷ xs) ys h = by (placed (structs_in source) s n x) (all_from (placed (structs_in source) s) (suc n) xs) h (λ e. none_joined s (suc n) xs ys e)
    where
      by : (o : Option Placed) (r : Option (List Placed)) → (o >>= λ y. r >>= λ zs. Some (y ∷ zs)) ≡ None → (r ≡ None → all_from (placed (structs_in source) s) (suc n) (xs ++ ys) ≡ None)
          → (o >>= λ y. all_from (placed (structs_in source) s) (suc n) (xs ++ ys) >>= λ zs. Some (y ∷ zs)) ≡ None
      by None r h k = refl
      by (Some y) None h k = ap (λ r. r >>= λ zs. Some (y ∷ zs)) (k refl)
      by (Some y) (Some zs) h k = absurd cc

  pub up_to_refused : (parts : List Part) (at : ℕ) (p : Part) (made : List InstData) → slice_get parts at ≡ Some p → MadeUpTo parts at made
      → ((n : ℕ) → Refuses (types_in source) scope (λ s. all_from (placed (structs_in source) s) n (lines_in source (p ∷ [])))) → (n : ℕ) → Refuses (types_in source) scope (λ s. all_from (placed (structs_in source) s) n (lines_in source parts))
  up_to_refused parts at p made h m r n = λ s knows.
      let behind = lines_of (p ∷ []) ++ lines_of (drop (suc at) parts) in
      let e : lines_of parts ≡ m.done ++ behind = m.is ∙ ap (λ ls. m.done ++ ls) (lines_at parts at (suc at) p h refl) in
      let k = n + length (map (line_in source) m.done) in
      ap (λ ls. all_placed s n ls) e
      ∙ ap (all_from (placed (structs_in source) s) n) (map-append (line_in source) m.done behind)
      ∙ all_joined (placed (structs_in source) s) n (map (line_in source) m.done) (map (line_in source) behind) _ (m.made.is s n knows)
      ∙ ap (λ o. o >>= λ zs. Some (placed_from (source_trees source) n made ++ zs))
      (ap (all_from (placed (structs_in source) s) k) (map-append (line_in source) (lines_of (p ∷ [])) (lines_of (drop (suc at) parts)))
      ∙ none_joined s k (lines_in source (p ∷ [])) (lines_in source (drop (suc at) parts)) (r k s knows))

  -- ---- blocks

  abbrev count_said : List SaidBlock → ℕ
  count_said [] = 0
  count_said (x ∷ xs) = length x.lines + count_said xs

  said_lines : (xs : List code_block.SaidBlock) → count_said (map (block_in source) xs) ≡ count_lines xs
  said_lines [] = refl
  said_lines (x ∷ xs) = let e = said_lines xs in let k = length-map (lines_of x.lines.now) (line_in source) in omega (arith, e, k)

  -- what is made of blocks behind others, which mean something
  blocks_joined : (s : Scope) (b n : ℕ) (xs ys : List SaidBlock) (made : List Block) → blocks_data (structs_in source) s b n xs ≡ Some made
      → blocks_data (structs_in source) s b n (xs ++ ys) ≡ (blocks_data (structs_in source) s (b + length xs) (n + count_said xs) ys >>= λ zs. Some (made ++ zs))
  blocks_joined s b n [] ys made h =
      let same : [] ≡ made = cc in
      let e : b + 0 ≡ b = omega arith in
      let k : n + 0 ≡ n = omega arith in
      rw (e, k) (subst (λ (zs : List Block). blocks_data (structs_in source) s b n ys ≡ (blocks_data (structs_in source) s b n ys >>= λ ws. Some (zs ++ ws))) same (nothing_before (blocks_data (structs_in source) s b n ys)))
  blocks_joined s b n (x ∷ xs) ys made h = by (all_from (placed (structs_in source) s) n x.lines) (blocks_data (structs_in source) s (suc b) (n + length x.lines) xs) made h (λ rest e. blocks_joined s (suc b) (n + length x.lines) xs ys rest e)
    where
      by : (o : Option (List Placed)) (r : Option (List Block)) (made : List Block)
          → (o >>= λ is. r >>= λ bs. Some (record { number = b; name = written_name label_key x.label; instructions = is } ∷ bs)) ≡ Some made
          → ((rest : List Block) → r ≡ Some rest → blocks_data (structs_in source) s (suc b) (n + length x.lines) (xs ++ ys) ≡ (blocks_data (structs_in source) s (suc b + length xs) (n + length x.lines + count_said xs) ys >>= λ zs. Some (rest ++ zs)))
          → (o >>= λ is. blocks_data (structs_in source) s (suc b) (n + length x.lines) (xs ++ ys) >>= λ bs. Some (record { number = b; name = written_name label_key x.label; instructions = is } ∷ bs))
          ≡ (blocks_data (structs_in source) s (b + suc (length xs)) (n + (length x.lines + count_said xs)) ys >>= λ zs. Some (made ++ zs))
      by None r made h k = absurd cc
      by (Some is) None made h k = absurd cc
      by (Some is) (Some rest) made h k =
          let one : Block = record { number = b; name = written_name label_key x.label; instructions = is } in
          let same : one ∷ rest ≡ made = cc in
          let e : suc b + length xs ≡ b + suc (length xs) = omega arith in
          let d : n + length x.lines + count_said xs ≡ n + (length x.lines + count_said xs) = omega arith in
          ap (λ r. r >>= λ zs. Some (one ∷ zs)) (k rest refl)
          ∙ sym (joined (blocks_data (structs_in source) s (suc b + length xs) (n + length x.lines + count_said xs) ys) one rest)
          ∙ ap (λ m. blocks_data (structs_in source) s m (n + length x.lines + count_said xs) ys >>= λ zs. Some (one ∷ (rest ++ zs))) e
          ∙ ap (λ m. blocks_data (structs_in source) s (b + suc (length xs)) m ys >>= λ zs. Some (one ∷ (rest ++ zs))) d
          ∙ ap (λ ws. blocks_data (structs_in source) s (b + suc (length xs)) (n + (length x.lines + count_said xs)) ys >>= λ zs. Some (ws ++ zs)) same

  from_joined : (t : Trees) (b n : ℕ) (xs ys : List BodyBlock) → blocks_from t b n xs ++ blocks_from t (b + length xs) (n + count_body xs) ys ≡ blocks_from t b n (xs ++ ys)
  from_joined t b n [] ys =
      let e : b + 0 ≡ b = omega arith in
      let k : n + 0 ≡ n = omega arith in
      ap (λ m. blocks_from t m (n + 0) ys) e ∙ ap (λ m. blocks_from t b m ys) k
  from_joined t b n (x ∷ xs) ys =
      let e : b + suc (length xs) ≡ b + 1 + length xs = omega arith in
      let k : n + (length x.insts + count_body xs) ≡ n + length x.insts + count_body xs = omega arith in
      let one : Block = record { number = b; name = x.name; instructions = placed_from t n x.insts } in
      ap (λ m. one ∷ (blocks_from t (b + 1) (n + length x.insts) xs ++ blocks_from t m (n + (length x.insts + count_body xs)) ys)) e
      ∙ ap (λ m. one ∷ (blocks_from t (b + 1) (n + length x.insts) xs ++ blocks_from t (b + 1 + length xs) m ys)) k
      ∙ ap (λ zs. one ∷ zs) (from_joined t (b + 1) (n + length x.insts) xs ys)

  body_append : (xs ys : List BodyBlock) → count_body (xs ++ ys) ≡ count_body xs + count_body ys
  body_append [] ys = omega arith
  body_append (x ∷ xs) ys = let e = body_append xs ys in omega (arith, e)

  lines_append : (xs ys : List code_block.SaidBlock) → count_lines (xs ++ ys) ≡ count_lines xs + count_lines ys
  lines_append [] ys = omega arith
  lines_append (x ∷ xs) ys = let e = lines_append xs ys in omega (arith, e)

  pub no_blocks : MadeBlocks source scope [] []
  no_blocks = record { count = refl; insts = refl; is = λ s b n h. refl }

  one_block : (x : code_block.SaidBlock) (y : BodyBlock) (s : Scope) (b n : ℕ) → Knows (types_in source) scope s → y.name ≡ written_name label_key (block_in source x).label → Made source scope (lines_of x.lines.now) y.insts
      → blocks_data (structs_in source) s b n (block_in source x ∷ []) ≡ Some (blocks_from (source_trees source) b n (y ∷ []))
  one_block x y s b n knows name m =
      ap (λ o. o >>= λ is. Some (record { number = b; name = written_name label_key (block_in source x).label; instructions = is } ∷ [])) (m.is s n knows)
      ∙ ap (λ (t : List ℕ). Some (record { number = b; name = t; instructions = placed_from (source_trees source) n y.insts } ∷ [])) (sym name)

  both_blocks : (xs ys : List code_block.SaidBlock) (s : Scope) (b n : ℕ) (made : List BodyBlock) → Knows (types_in source) scope s → MadeBlocks source scope xs made
      → blocks_data (structs_in source) s b n (map (block_in source) (xs ++ ys)) ≡ (blocks_data (structs_in source) s (b + length made) (n + count_body made) (map (block_in source) ys) >>= λ zs. Some (blocks_from (source_trees source) b n made ++ zs))
  both_blocks xs ys s b n made knows m =
      let many = length-map xs (block_in source) in
      let lines = said_lines xs in
      let e : b + length (map (block_in source) xs) ≡ b + length made = omega (arith, many, m.count) in
      let k : n + count_said (map (block_in source) xs) ≡ n + count_body made = omega (arith, lines, m.insts) in
      ap (blocks_data (structs_in source) s b n) (map-append (block_in source) xs ys)
      ∙ blocks_joined s b n (map (block_in source) xs) (map (block_in source) ys) _ (m.is s b n knows)
      ∙ ap (λ p. blocks_data (structs_in source) s p (n + count_said (map (block_in source) xs)) (map (block_in source) ys) >>= λ zs. Some (blocks_from (source_trees source) b n made ++ zs)) e
      ∙ ap (λ p. blocks_data (structs_in source) s (b + length made) p (map (block_in source) ys) >>= λ zs. Some (blocks_from (source_trees source) b n made ++ zs)) k

  pub blocks_more : (xs : List code_block.SaidBlock) (at : ℕ) (x : code_block.SaidBlock) (made new : List BodyBlock) (y : BodyBlock) → slice_get xs at ≡ Some x → new ≡ made ++ y ∷ []
      → y.name ≡ written_name label_key (block_in source x).label → Made source scope (lines_of x.lines.now) y.insts → MadeBlocks source scope (take at xs) made → MadeBlocks source scope (take (at + 1) xs) new
  blocks_more xs at x made new y h is name one m =
      let sizes = length-append made (y ∷ []) in
      let size = length-append (take at xs) (x ∷ []) in
      let lines = lines_append (take at xs) (x ∷ []) in
      let insts = body_append made (y ∷ []) in
      rw (take_next xs at x h, is) (record {
        count = omega (arith, sizes, size, m.count);
        insts = omega (arith, lines, insts, m.insts, one.count);
        is = λ s b n knows.
            both_blocks (take at xs) (x ∷ []) s b n made knows m
            ∙ ap (λ o. o >>= λ zs. Some (blocks_from (source_trees source) b n made ++ zs)) (one_block x y s (b + length made) (n + count_body made) knows name one)
            ∙ ap (λ zs. Some zs) (from_joined (source_trees source) b n made (y ∷ []));
      })

  pub blocks_all : (xs : List code_block.SaidBlock) (at : ℕ) (made : List BodyBlock) → length xs ≤ at → MadeBlocks source scope (take at xs) made → MadeBlocks source scope xs made
  blocks_all xs at made past m = subst (λ ys. MadeBlocks source scope ys made) (take_all at xs past) m

  pub blocks_unmade : (xs : List code_block.SaidBlock) (at : ℕ) (x : code_block.SaidBlock) (made : List BodyBlock) → slice_get xs at ≡ Some x → MadeBlocks source scope (take at xs) made
      → ((n : ℕ) → Refuses (types_in source) scope (λ s. all_from (placed (structs_in source) s) n (block_in source x).lines)) → (b n : ℕ) → Refuses (types_in source) scope (λ s. blocks_data (structs_in source) s b n (map (block_in source) xs))
  blocks_unmade xs at x made h m r b n = λ s knows.
      let e : xs ≡ take at xs ++ x ∷ drop (suc at) xs = sym (take-append-drop at xs) ∙ ap (λ ys. take at xs ++ ys) (drop_at xs at x h) in
      ap (λ ys. blocks_data (structs_in source) s b n (map (block_in source) ys)) e
      ∙ both_blocks (take at xs) (x ∷ drop (suc at) xs) s b n made knows m
      ∙ ap (λ o. (o >>= λ is. blocks_data (structs_in source) s (suc (b + length made)) (n + count_body made + length (block_in source x).lines) (map (block_in source) (drop (suc at) xs)) >>= λ bs. Some (record { number = b + length made; name = written_name label_key (block_in source x).label; instructions = is } ∷ bs)) >>= λ zs. Some (blocks_from (source_trees source) b n made ++ zs)) (r (n + count_body made) s knows)
