-- Lists of constants and of bytes, from their symbols: what was read so far, and what leaves no list.
use Rattle.std.proofs.Common.{◌≡◌, ◌<◌, ◌≤◌, ℕ, List, [], ◌∷◌, ◌++◌, All, refl, sym, subst, ap, ◌∙◌, arith}
use Rattle.std.proofs.lemmas.List.Elements.{All-nil, All-cons, All-head, All-tail}
use Rattle.dialect_types.specs.Trees.{NamedStruct}
use Rattle.const_attrs.specs.Trees.{Attr, Attrs, AttrTree, AttrTrees, NoAttrs, ThenAttr, attr_depth, attrs_depth}
use Rattle.dialect_parsing.specs.declared.symbol.Symbol.{Symbol}
use Rattle.dialect_parsing.specs.declared.symbol.Symbol.TheVariants as S
use Rattle.dialect_parsing.specs.ConstantReading.{AreBytesRead, AreNoBytes, IsAttrRead, IsNoAttr, AreAttrsRead, AreNoAttrs}
use Rattle.dialect_parsing.specs.Constants.{other_numbers, listed_numbers, attr_written, listed_attrs, other_attrs, IsAttrOfDialect, AreAttrsOfDialect}
use Rattle.dialect_parsing.proofs.ConstantLaws.{one_attr, not_attr}

-- ---- one more

abbrev pub then_last : {T : Type 0} → Attrs T → Attr T → Attrs T
then_last NoAttrs c = ThenAttr c NoAttrs
then_last (ThenAttr d ds) c = ThenAttr d (then_last ds c)

attrs_push : (cs : AttrTrees) (c : AttrTree) (ss : List Symbol) → other_attrs (then_last cs c) ss ≡ other_attrs cs (S.Comma ∷ attr_written c ss)
attrs_push NoAttrs c ss = refl
attrs_push (ThenAttr d ds) c ss = ap (λ (us : List Symbol). S.Comma ∷ attr_written d us) (attrs_push ds c ss)

depth_push : (n : ℕ) (cs : AttrTrees) (c : AttrTree) → attrs_depth cs ≤ n → attr_depth c ≤ n → attrs_depth (then_last cs c) ≤ n
depth_push n NoAttrs c h k = omega arith
depth_push n (ThenAttr d ds) c h k = omega (arith, depth_push n ds c (omega arith) k)

numbers_push : (ns : List ℕ) (n : ℕ) (ss : List Symbol) → other_numbers (ns ++ n ∷ []) ss ≡ other_numbers ns (S.Comma ∷ S.Number n ∷ ss)
numbers_push [] n ss = refl
numbers_push (m ∷ ms) n ss = ap (λ (us : List Symbol). S.Comma ∷ S.Number m ∷ us) (numbers_push ms n ss)

-- ---- bytes

abbrev pub IsByte : ℕ → Type 0
IsByte b = b < 256

small_push : (ns : List ℕ) (n : ℕ) → All IsByte ns → n < 256 → All IsByte (ns ++ n ∷ [])
small_push [] n h k = All-cons IsByte n [] k (All-nil IsByte)
small_push (m ∷ ms) n h k = All-cons IsByte m (ms ++ n ∷ []) (All-head IsByte m ms h) (small_push ms n (All-tail IsByte m ms h) k)

-- of some symbols, bytes with commas between them were read so far, of which there is one at least; these are left
pub record AreBytesSoFar (ss : List Symbol) (found : List ℕ) (left : List Symbol) : Type 0 where
  pub first : ℕ
  pub more : List ℕ
  pub some : found ≡ first ∷ more
  pub is : ss ≡ S.Number first ∷ other_numbers more left
  pub small : All IsByte found

pub next_byte : (ss left mid end : List Symbol) (found : List ℕ) (b : ℕ) → AreBytesSoFar ss found left → left ≡ S.Comma ∷ mid → mid ≡ S.Number b ∷ end → b < 256 → AreBytesSoFar ss (found ++ b ∷ []) end
next_byte ss left mid end found b so comma is small = record {
  first = so.first;
  more = so.more ++ b ∷ [];
  some = ap (λ (ns : List ℕ). ns ++ b ∷ []) so.some;
  is = so.is ∙ ap (λ (us : List Symbol). S.Number so.first ∷ other_numbers so.more us) (comma ∙ ap (λ (us : List Symbol). S.Comma ∷ us) is) ∙ ap (λ (us : List Symbol). S.Number so.first ∷ us) (sym (numbers_push so.more b end));
  small = small_push found b so.small small;
}

-- behind bytes that were read, those of a list that it may be
record BytesLeft (xs ss : List Symbol) : Type 0 where
  bytes : List ℕ
  is : xs ≡ other_numbers bytes (S.CloseBracket ∷ ss)
  small : All IsByte bytes

other_bytes_left : (ps ns : List ℕ) (xs ss : List Symbol) → All IsByte ns → other_numbers ps xs ≡ other_numbers ns (S.CloseBracket ∷ ss) → BytesLeft xs ss
other_bytes_left [] ns xs ss small e = record { bytes = ns; is = e; small = small }
other_bytes_left (p ∷ ps) [] xs ss small e = cc
other_bytes_left (p ∷ ps) (n ∷ ns) xs ss small e = other_bytes_left ps ns xs ss (All-tail IsByte n ns small) (cc)

bytes_left : (p : ℕ) (ps ns : List ℕ) (xs ss : List Symbol) → All IsByte ns → S.Number p ∷ other_numbers ps xs ≡ listed_numbers ns (S.CloseBracket ∷ ss) → BytesLeft xs ss
bytes_left p ps [] xs ss small e = cc
bytes_left p ps (n ∷ ns) xs ss small e = other_bytes_left ps ns xs ss (All-tail IsByte n ns small) (cc)

bytes_left_of : (ss left end : List Symbol) (found bytes : List ℕ) → AreBytesSoFar ss found left → AreBytesRead ss bytes end → BytesLeft left end
bytes_left_of ss left end found bytes so h = bytes_left so.first so.more bytes left end h.small (sym so.is ∙ h.is)

pub no_byte_comma : (ss left new : List Symbol) (found : List ℕ) → AreBytesSoFar ss found left → new ≡ left → ((us : List Symbol) → left ≡ S.CloseBracket ∷ us → ⊥) → ((us : List Symbol) → new ≡ S.Comma ∷ us → ⊥) → AreNoBytes ss
no_byte_comma ss left new found so same shut h bytes end k = by (bytes_left_of ss left end found bytes so k)
  where
    inside : (ns : List ℕ) → left ≡ other_numbers ns (S.CloseBracket ∷ end) → ⊥
    inside [] e = shut end e
    inside (n ∷ ns) e = h (S.Number n ∷ other_numbers ns (S.CloseBracket ∷ end)) (same ∙ e)

    by : BytesLeft left end → ⊥
    by x = inside x.bytes x.is

pub no_next_byte : (ss left mid new : List Symbol) (found : List ℕ) → AreBytesSoFar ss found left → new ≡ left → new ≡ S.Comma ∷ mid → ((b : ℕ) (us : List Symbol) → b < 256 → mid ≡ S.Number b ∷ us → ⊥) → AreNoBytes ss
no_next_byte ss left mid new found so same comma h bytes end k = by (bytes_left_of ss left end found bytes so k)
  where
    inside : (ns : List ℕ) → All IsByte ns → left ≡ other_numbers ns (S.CloseBracket ∷ end) → ⊥
    inside [] small e = cc
    inside (n ∷ ns) small e = h n (other_numbers ns (S.CloseBracket ∷ end)) (All-head IsByte n ns small) (cc)

    by : BytesLeft left end → ⊥
    by x = inside x.bytes x.small x.is

-- ---- constants

module _ (structs : List NamedStruct) where
  fine_push : (cs : AttrTrees) (c : AttrTree) → AreAttrsOfDialect structs cs → IsAttrOfDialect structs c → AreAttrsOfDialect structs (then_last cs c)
  fine_push NoAttrs c h k = (k, tt)
  fine_push (ThenAttr d ds) c h k = (h.0, fine_push ds c h.1 k)

  -- of some symbols, constants with commas between them were read so far, of which there is one at least; these are left
  pub record AreAttrsSoFar (room : ℕ) (ss : List Symbol) (found : AttrTrees) (left : List Symbol) : Type 0 where
    pub first : AttrTree
    pub more : AttrTrees
    pub some : found ≡ ThenAttr first more
    pub is : ss ≡ attr_written first (other_attrs more left)
    pub fine : AreAttrsOfDialect structs found
    pub fits : attrs_depth found ≤ room

  -- a constant behind a comma was read as well
  pub next_attr : (room : ℕ) (ss left mid end : List Symbol) (found : AttrTrees) (c : AttrTree) → AreAttrsSoFar room ss found left → left ≡ S.Comma ∷ mid → IsAttrRead structs room mid c end → AreAttrsSoFar room ss (then_last found c) end
  next_attr room ss left mid end found c so comma h = record {
    first = so.first;
    more = then_last so.more c;
    some = ap (λ (cs : AttrTrees). then_last cs c) so.some;
    is = so.is ∙ ap (λ (us : List Symbol). attr_written so.first (other_attrs so.more us)) (comma ∙ ap (λ (us : List Symbol). S.Comma ∷ us) h.is) ∙ ap (attr_written so.first) (sym (attrs_push so.more c end));
    fine = fine_push found c so.fine h.fine;
    fits = depth_push room found c so.fits h.fits;
  }

  -- ---- what leaves no list

  -- behind constants that were read, those of a list that it may be
  record Left (n : ℕ) (xs ss : List Symbol) : Type 0 where
    attrs : AttrTrees
    is : xs ≡ other_attrs attrs (S.CloseBracket ∷ ss)
    fine : AreAttrsOfDialect structs attrs
    fits : attrs_depth attrs ≤ n

  others_left : (n : ℕ) (ps cs : AttrTrees) (xs ss : List Symbol) → AreAttrsOfDialect structs ps → AreAttrsOfDialect structs cs → attrs_depth cs ≤ n → other_attrs ps xs ≡ other_attrs cs (S.CloseBracket ∷ ss) → Left n xs ss
  others_left n NoAttrs cs xs ss fp fc fits e = record { attrs = cs; is = e; fine = fc; fits = fits }
  others_left n (ThenAttr p ps) NoAttrs xs ss fp fc fits e = cc
  others_left n (ThenAttr p ps) (ThenAttr c cs) xs ss fp fc fits e =
      let k = one_attr structs p c (other_attrs ps xs) (other_attrs cs (S.CloseBracket ∷ ss)) fp.0 fc.0 (cc) in
      others_left n ps cs xs ss fp.1 fc.1 (omega arith) k.1

  list_left : (n : ℕ) (p : AttrTree) (ps cs : AttrTrees) (xs ss : List Symbol) → AreAttrsOfDialect structs (ThenAttr p ps) → AreAttrsOfDialect structs cs → attrs_depth cs ≤ n → attr_written p (other_attrs ps xs) ≡ listed_attrs cs (S.CloseBracket ∷ ss) → Left n xs ss
  list_left n p ps NoAttrs xs ss fp fc fits e = absurd (not_attr p ss _ (sym e))
  list_left n p ps (ThenAttr c cs) xs ss fp fc fits e =
      let k = one_attr structs p c (other_attrs ps xs) (other_attrs cs (S.CloseBracket ∷ ss)) fp.0 fc.0 e in
      others_left n ps cs xs ss fp.1 fc.1 (omega arith) k.1

  left_of : (room : ℕ) (ss left end : List Symbol) (found cs : AttrTrees) → AreAttrsSoFar room ss found left → AreAttrsRead structs room ss cs end → Left room left end
  left_of room ss left end found cs so h = list_left room so.first so.more cs left end (subst (AreAttrsOfDialect structs) so.some so.fine) h.fine h.fits (sym so.is ∙ h.is)

  pub no_first_attr : (room : ℕ) (ss new : List Symbol) → new ≡ ss → ((us : List Symbol) → ss ≡ S.CloseBracket ∷ us → ⊥) → IsNoAttr structs room new → AreNoAttrs structs room ss
  no_first_attr room ss new same shut h NoAttrs left k = shut left k.is
  no_first_attr room ss new same shut h (ThenAttr c cs) left k = let fits = k.fits in h c (other_attrs cs (S.CloseBracket ∷ left)) (record { is = same ∙ k.is; fine = k.fine.0; fits = omega arith })

  pub no_attr_comma : (room : ℕ) (ss left new : List Symbol) (found : AttrTrees) → AreAttrsSoFar room ss found left → new ≡ left → ((us : List Symbol) → left ≡ S.CloseBracket ∷ us → ⊥) → ((us : List Symbol) → new ≡ S.Comma ∷ us → ⊥) → AreNoAttrs structs room ss
  no_attr_comma room ss left new found so same shut h cs end k = by (left_of room ss left end found cs so k)
    where
      inside : (ds : AttrTrees) → left ≡ other_attrs ds (S.CloseBracket ∷ end) → ⊥
      inside NoAttrs e = shut end e
      inside (ThenAttr d ds) e = h (attr_written d (other_attrs ds (S.CloseBracket ∷ end))) (same ∙ e)

      by : Left room left end → ⊥
      by x = inside x.attrs x.is

  pub no_next_attr : (room : ℕ) (ss left mid new : List Symbol) (found : AttrTrees) → AreAttrsSoFar room ss found left → new ≡ left → new ≡ S.Comma ∷ mid → IsNoAttr structs room mid → AreNoAttrs structs room ss
  no_next_attr room ss left mid new found so same comma h cs end k = by (left_of room ss left end found cs so k)
    where
      inside : (ds : AttrTrees) → left ≡ other_attrs ds (S.CloseBracket ∷ end) → AreAttrsOfDialect structs ds → attrs_depth ds ≤ room → ⊥
      inside NoAttrs e fine fits = cc
      inside (ThenAttr d ds) e fine fits = h d (other_attrs ds (S.CloseBracket ∷ end)) (record { is = cc; fine = fine.0; fits = omega arith })

      by : Left room left end → ⊥
      by x = inside x.attrs x.is x.fine x.fits
