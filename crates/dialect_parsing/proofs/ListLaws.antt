-- Lists of types, from their symbols: what was read so far, and what leaves no list.
use Rattle.std.proofs.Common.{◌≡◌, ◌<◌, ◌≤◌, ℕ, true, List, [], ◌∷◌, ◌++◌, length, All, Result, Ok, Err, IfOk, refl, sym, subst, ap, ◌∙◌, arith}
use Rattle.std.proofs.lemmas.List.Elements.{All-nil, All-cons, All-head, All-tail}
use Rattle.kinds.specs.Types.{depth, depths, shape}
use Rattle.kinds.specs.Fitting.{is_field}
use Rattle.dialect_types.specs.declared.types.TypeHandle.{TypeHandle}
use Rattle.dialect_types.specs.declared.types.TypeKind.{TypeKind}
use Rattle.dialect_types.specs.Trees.{NamedStruct, TypeTree, TypeTrees, NoTypes, ThenType, type_at, types_at, type_trees, AllBelow}
use Rattle.dialect_types.proofs.TreeLemmas.{kept_trees}
use Rattle.dialect_parsing.specs.declared.symbol.Symbol.{Symbol}
use Rattle.dialect_parsing.specs.declared.symbol.Symbol.TheVariants as S
use Rattle.dialect_parsing.specs.Reading.{closes, IsRead, IsNoType, AreRead, AreNoTypes}
use Rattle.dialect_parsing.specs.Spelling.{Grows, written, listed, others, IsOfDialect, AreOfDialect, AreFields}
use Rattle.dialect_parsing.proofs.ReadingLaws.{one, not_comma, not_type}
use Rattle.dialect_parsing.proofs.StoreLaws.{below_more}

-- ---- fields

pub fields_are : (ts : List TypeTree) (xs : List TypeHandle) → All (λ (t : TypeHandle). is_field (shape (type_at ts t)) ≡ true) xs → AreFields (types_at ts xs)
fields_are ts [] h = tt
fields_are ts (x ∷ xs) h =
    let P : TypeHandle → Type 0 = λ t. is_field (shape (type_at ts t)) ≡ true in
    (All-head P x xs h, fields_are ts xs (All-tail P x xs h))

pub are_fields : (ts : List TypeTree) (xs : List TypeHandle) → AreFields (types_at ts xs) → All (λ (t : TypeHandle). is_field (shape (type_at ts t)) ≡ true) xs
are_fields ts [] h = All-nil (λ (t : TypeHandle). is_field (shape (type_at ts t)) ≡ true)
are_fields ts (x ∷ xs) h = All-cons (λ (t : TypeHandle). is_field (shape (type_at ts t)) ≡ true) x xs h.0 (are_fields ts xs h.1)

pub when_ok : {A E : Type 0} (P : Type 0) (r : Result A E) → P → IfOk r (λ x. P)
when_ok P (Ok a) h = h
when_ok P (Err e) h = tt

-- ---- one more type

others_push : (ts : List TypeTree) (xs : List TypeHandle) (x : TypeHandle) (ss : List Symbol) → others (types_at ts (xs ++ x ∷ [])) ss ≡ others (types_at ts xs) (S.Comma ∷ written (type_at ts x) ss)
others_push ts [] x ss = refl
others_push ts (y ∷ ys) x ss = ap (λ (us : List Symbol). S.Comma ∷ written (type_at ts y) us) (others_push ts ys x ss)

fits_push : (ts : List TypeTree) (n : ℕ) (xs : List TypeHandle) (x : TypeHandle) → depths (types_at ts xs) ≤ n → depth (type_at ts x) ≤ n → depths (types_at ts (xs ++ x ∷ [])) ≤ n
fits_push ts n [] x h k = omega arith
fits_push ts n (y ∷ ys) x h k = omega (arith, fits_push ts n ys x (omega arith) k)

below_push : (n : ℕ) (xs : List TypeHandle) (x : TypeHandle) → AllBelow n xs → x.0 < n → AllBelow n (xs ++ x ∷ [])
below_push n [] x h k = (k, tt)
below_push n (y ∷ ys) x h k = (h.0, below_push n ys x h.1 k)

module _ (structs : List NamedStruct) where
  fine_push : (ts : List TypeTree) (xs : List TypeHandle) (x : TypeHandle) → AreOfDialect structs (types_at ts xs) → IsOfDialect structs (type_at ts x) → AreOfDialect structs (types_at ts (xs ++ x ∷ []))
  fine_push ts [] x h k = (k, tt)
  fine_push ts (y ∷ ys) x h k = (h.0, fine_push ts ys x h.1 k)

  -- of some symbols, types with commas between them were read so far, of which there is one at least; these are left
  pub record AreSoFar (room : ℕ) (ss : List Symbol) (store : List TypeKind) (found : List TypeHandle) (left : List Symbol) : Type 0 where
    pub first : TypeHandle
    pub more : List TypeHandle
    pub some : found ≡ first ∷ more
    pub is : ss ≡ listed (types_at (type_trees store) found) left
    pub fine : AreOfDialect structs (types_at (type_trees store) found)
    pub fits : depths (types_at (type_trees store) found) ≤ room
    pub below : AllBelow (length store) found

  pub first_read : (room : ℕ) (ss left : List Symbol) (store : List TypeKind) (x : TypeHandle) (xs found : List TypeHandle) → xs ≡ [] → found ≡ xs ++ x ∷ [] → x.0 < length store → IsRead structs room ss (type_at (type_trees store) x) left → AreSoFar room ss store found left
  first_read room ss left store x xs found none all within h =
      let fits = h.fits in
      rw (all, none) (record { first = x; more = []; some = refl; is = h.is; fine = (h.fine, tt); fits = omega arith; below = (within, tt) })

  one_more : (room : ℕ) (ss left end : List Symbol) (store : List TypeKind) (y x : TypeHandle) (ys : List TypeHandle) → ss ≡ listed (types_at (type_trees store) (y ∷ ys)) (S.Comma ∷ left) → AreOfDialect structs (types_at (type_trees store) (y ∷ ys)) → depths (types_at (type_trees store) (y ∷ ys)) ≤ room
      → AllBelow (length store) (y ∷ ys) → x.0 < length store → IsRead structs room left (type_at (type_trees store) x) end → AreSoFar room ss store (y ∷ ys ++ x ∷ []) end
  one_more room ss left end store y x ys is fine fits below within h =
      let ts = type_trees store in
      let deep = h.fits in
      record {
        first = y;
        more = ys ++ x ∷ [];
        some = refl;
        is =
            is ∙ ap (λ (us : List Symbol). listed (types_at ts (y ∷ ys)) (S.Comma ∷ us)) h.is
            ∙ ap (written (type_at ts y)) (sym (others_push ts ys x end));
        fine = (fine.0, fine_push ts ys x fine.1 h.fine);
        fits = omega (arith, fits_push ts room ys x (omega arith) h.fits);
        below = (below.0, below_push (length store) ys x below.1 within);
      }

  -- a type behind a comma was read as well, in a store that grew
  pub next_read : (room : ℕ) (ss left mid end : List Symbol) (old new : List TypeKind) (found all : List TypeHandle) (x : TypeHandle) → AreSoFar room ss old found left → left ≡ S.Comma ∷ mid → Grows old new → x.0 < length new → IsRead structs room mid (type_at (type_trees new) x) end
      → all ≡ found ++ x ∷ [] → AreSoFar room ss new all end
  next_read room ss left mid end old new found all x so comma grown within h is =
      let below = subst (AllBelow (length old)) so.some so.below in
      let kept : types_at (type_trees new) (so.first ∷ so.more) ≡ types_at (type_trees old) (so.first ∷ so.more) = ap (λ (ks : List TypeKind). types_at (type_trees ks) (so.first ∷ so.more)) grown.is ∙ kept_trees old grown.more (so.first ∷ so.more) below in
      let same : types_at (type_trees old) found ≡ types_at (type_trees new) (so.first ∷ so.more) = ap (types_at (type_trees old)) so.some ∙ sym kept in
      let all_is : all ≡ so.first ∷ so.more ++ x ∷ [] = is ∙ ap (λ (ys : List TypeHandle). ys ++ x ∷ []) so.some in
      subst (λ (ys : List TypeHandle). AreSoFar room ss new ys end) (sym all_is)
      (one_more room ss mid end new so.first x so.more
      (so.is ∙ ap (listed (types_at (type_trees old) found)) comma ∙ ap (λ (us : TypeTrees). listed us (S.Comma ∷ mid)) same)
      (subst (AreOfDialect structs) same so.fine) (subst (λ (us : TypeTrees). depths us ≤ room) same so.fits) (below_more old new grown (so.first ∷ so.more) below) within h)

  -- the sign that closes them is there
  pub all_read : (room : ℕ) (c : Symbol) (ss left end : List Symbol) (store : List TypeKind) (found : List TypeHandle) → AreSoFar room ss store found left → left ≡ c ∷ end → AreRead structs room c ss (types_at (type_trees store) found) end
  all_read room c ss left end store found so close = record { is = so.is ∙ ap (listed (types_at (type_trees store) found)) close; fine = so.fine; fits = so.fits }

  pub none_read : (room : ℕ) (c : Symbol) (ss left : List Symbol) (ts : List TypeTree) (found : List TypeHandle) → found ≡ [] → ss ≡ c ∷ left → AreRead structs room c ss (types_at ts found) left
  none_read room c ss left ts found none is = rw none (record { is = is; fine = tt; fits = omega arith })

  -- ---- what leaves no list

  -- behind types that were read, those of a list that it may be
  record Left (n : ℕ) (c : Symbol) (xs ss : List Symbol) : Type 0 where
    types : TypeTrees
    is : xs ≡ others types (c ∷ ss)
    fine : AreOfDialect structs types
    fits : depths types ≤ n

  others_left : (n : ℕ) (c : Symbol) (ps ts : TypeTrees) (xs ss : List Symbol) → closes c ≡ true → AreOfDialect structs ps → AreOfDialect structs ts → depths ts ≤ n → others ps xs ≡ others ts (c ∷ ss) → Left n c xs ss
  others_left n c NoTypes ts xs ss close fp ft fits e = record { types = ts; is = e; fine = ft; fits = fits }
  others_left n c (ThenType p ps) NoTypes xs ss close fp ft fits e = absurd (not_comma c ss _ close (sym e))
  others_left n c (ThenType p ps) (ThenType t ts) xs ss close fp ft fits e =
      let k = one structs p t (others ps xs) (others ts (c ∷ ss)) fp.0 ft.0 (cc) in
      others_left n c ps ts xs ss close fp.1 ft.1 (omega arith) k.1

  list_left : (n : ℕ) (c : Symbol) (p : TypeTree) (ps ts : TypeTrees) (xs ss : List Symbol) → closes c ≡ true → AreOfDialect structs (ThenType p ps) → AreOfDialect structs ts → depths ts ≤ n → listed (ThenType p ps) xs ≡ listed ts (c ∷ ss) → Left n c xs ss
  list_left n c p ps NoTypes xs ss close fp ft fits e = absurd (not_type structs c p ss _ close fp.0 (sym e))
  list_left n c p ps (ThenType t ts) xs ss close fp ft fits e =
      let k = one structs p t (others ps xs) (others ts (c ∷ ss)) fp.0 ft.0 e in
      others_left n c ps ts xs ss close fp.1 ft.1 (omega arith) k.1

  left_of : (room : ℕ) (c : Symbol) (ss left end : List Symbol) (store : List TypeKind) (found : List TypeHandle) (ts : TypeTrees) → closes c ≡ true → AreSoFar room ss store found left → AreRead structs room c ss ts end → Left room c left end
  left_of room c ss left end store found ts close so h =
      let trees = type_trees store in
      let same = ap (types_at trees) so.some in
      list_left room c (type_at trees so.first) (types_at trees so.more) ts left end close (subst (AreOfDialect structs) same so.fine) h.fine h.fits
      (ap (λ (us : TypeTrees). listed us left) (sym same) ∙ sym so.is ∙ h.is)

  pub no_first : (room : ℕ) (c : Symbol) (ss new : List Symbol) → new ≡ ss → ((us : List Symbol) → ss ≡ c ∷ us → ⊥) → IsNoType structs room new → AreNoTypes structs room c ss
  no_first room c ss new same shut h NoTypes left k = shut left k.is
  no_first room c ss new same shut h (ThenType t ts) left k = let fits = k.fits in h t (others ts (c ∷ left)) (record { is = same ∙ k.is; fine = k.fine.0; fits = omega arith })

  pub no_comma : (room : ℕ) (c : Symbol) (ss left new : List Symbol) (store : List TypeKind) (found : List TypeHandle) → closes c ≡ true → AreSoFar room ss store found left → new ≡ left → ((us : List Symbol) → left ≡ c ∷ us → ⊥) → ((us : List Symbol) → new ≡ S.Comma ∷ us → ⊥) → AreNoTypes structs room c ss
  no_comma room c ss left new store found close so same shut h ts end k = by (left_of room c ss left end store found ts close so k)
    where
      inside : (us : TypeTrees) → left ≡ others us (c ∷ end) → ⊥
      inside NoTypes e = shut end e
      inside (ThenType u us) e = h (written u (others us (c ∷ end))) (same ∙ e)

      by : Left room c left end → ⊥
      by x = inside x.types x.is

  pub no_next : (room : ℕ) (c : Symbol) (ss left mid new : List Symbol) (store : List TypeKind) (found : List TypeHandle) → closes c ≡ true → AreSoFar room ss store found left → new ≡ left → new ≡ S.Comma ∷ mid → IsNoType structs room mid → AreNoTypes structs room c ss
  no_next room c ss left mid new store found close so same comma h ts end k = by (left_of room c ss left end store found ts close so k)
    where
      inside : (us : TypeTrees) → left ≡ others us (c ∷ end) → AreOfDialect structs us → depths us ≤ room → ⊥
      inside NoTypes e fine fits = not_comma c end mid close (sym e ∙ sym same ∙ comma)
      inside (ThenType u us) e fine fits =
          let both : S.Comma ∷ mid ≡ S.Comma ∷ written u (others us (c ∷ end)) = sym comma ∙ same ∙ e in
          h u (others us (c ∷ end)) (record { is = cc; fine = fine.0; fits = omega arith })

      by : Left room c left end → ⊥
      by x = inside x.types x.is x.fine x.fits
