-- The text that is printed of a constant spells it.
use Rattle.std.proofs.Common.{◌≡◌, ◌≤◌, ◌<◌, ◌^◌, ℕ, false, List, [], ◌∷◌, ◌++◌, All, Some, map, refl, sym, ap, ◌∙◌, append_assoc, arith}
use Rattle.std.proofs.lemmas.List.{append-nil}
use Rattle.std.proofs.lemmas.List.Elements.{All-head, All-tail}
use Rattle.std.specs.Prelude.{codes, decimal}
use Rattle.kinds.specs.declared.fill.Fill.{Fill}
use Rattle.kinds.specs.declared.fill.Fill.TheVariants as F
use Rattle.dialect_types.specs.Text.{type_text, joined, each_after}
use Rattle.dialect_types.specs.Trees.{NamedStruct, TypeTree, VoidType, IntType, PointerType, FloatingType, RefusedType, ArrayType, VectorType, StructType, NamedType, FunctionType}
use Rattle.const_attrs.specs.Text.{inner_type_text, fill_head, attr_text, attr_texts}
use Rattle.const_attrs.specs.Trees.{AttrTree, AttrTrees, IntegerAttr, FilledAttr, BytesAttr, AggregateAttr, SplatAttr, NoAttrs, ThenAttr, attr_depth}
use Rattle.dialect_parsing.specs.declared.symbol.Symbol.{Symbol}
use Rattle.dialect_parsing.specs.declared.symbol.Symbol.TheVariants as S
use Rattle.dialect_parsing.specs.Constants.{other_numbers, listed_numbers, attr_written, listed_attrs, other_attrs, IsAttrOfDialect, AreAttrsOfDialect, IsSpelledType, SpellsAttr}
use Rattle.dialect_parsing.specs.Spelling.{written}
use Rattle.dialect_parsing.specs.Symbols.{symbols_of}
use Rattle.dialect_parsing.specs.Tokens.{Text, begins_run}
use Rattle.dialect_parsing.proofs.ConstantListLaws.{IsByte}
use Rattle.dialect_parsing.proofs.NameTexts.{AreSpelled}
use Rattle.dialect_parsing.proofs.NumberTexts.{numeral}
use Rattle.dialect_parsing.proofs.TextLaws.{word, sign, number_by, bits_by, type_said, after_ends}

three : (a b c bs : Text) → (a ++ b ++ c) ++ bs ≡ a ++ (b ++ (c ++ bs))
three a b c bs = simp append_assoc

five : (a b c d e bs : Text) → (a ++ b ++ c ++ d ++ e) ++ bs ≡ a ++ (b ++ (c ++ (d ++ (e ++ bs))))
five a b c d e bs = simp append_assoc

-- ---- numbers with commas between them

byte_said : (n : ℕ) (bs : Text) (ss : List Symbol) → n < 256 → begins_run bs ≡ false → symbols_of bs ≡ Some ss → symbols_of (decimal n ++ bs) ≡ Some (S.Number n ∷ ss)
byte_said n bs ss small ends h = number_by n bs ss (numeral n (omega arith)) ends h

other_bytes_said : (ns : List ℕ) → All IsByte ns → (bs : Text) (ss : List Symbol) → begins_run bs ≡ false → symbols_of bs ≡ Some ss → symbols_of (each_after (map decimal ns) ++ bs) ≡ Some (other_numbers ns ss)
other_bytes_said [] small bs ss ends h = h
other_bytes_said (n ∷ ns) small bs ss ends h =
    let rest = each_after (map decimal ns) ++ bs in
    let more = byte_said n rest _ (All-head IsByte n ns small) (after_ends (map decimal ns) bs ends) (other_bytes_said ns (All-tail IsByte n ns small) bs ss ends h) in
    ap symbols_of (ap (λ (x : Text). 44 ∷ 32 ∷ x) (append_assoc (decimal n) (each_after (map decimal ns)) bs)) ∙ sign 44 (32 ∷ decimal n ++ rest) S.Comma _ refl refl refl more

bytes_said : (ns : List ℕ) → All IsByte ns → (bs : Text) (ss : List Symbol) → begins_run bs ≡ false → symbols_of bs ≡ Some ss → symbols_of (joined (map decimal ns) ++ bs) ≡ Some (listed_numbers ns ss)
bytes_said [] small bs ss ends h = h
bytes_said (n ∷ ns) small bs ss ends h =
    ap symbols_of (append_assoc (decimal n) (each_after (map decimal ns)) bs)
    ∙ byte_said n (each_after (map decimal ns) ++ bs) _ (All-head IsByte n ns small) (after_ends (map decimal ns) bs ends) (other_bytes_said ns (All-tail IsByte n ns small) bs ss ends h)

-- ---- what a constant begins with

fill_said : (fill : Fill) (bs : Text) (ss : List Symbol) → symbols_of bs ≡ Some ss → symbols_of (fill_head fill ++ bs) ≡ Some (S.Filled fill ∷ S.Less ∷ ss)
fill_said F.Zero bs ss h = word 108 (codes "lvm.zero") (32 ∷ 60 ∷ bs) _ _ refl refl refl (sign 60 bs S.Less ss refl refl refl h)
fill_said F.Undef bs ss h = word 108 (codes "lvm.undef") (32 ∷ 60 ∷ bs) _ _ refl refl refl (sign 60 bs S.Less ss refl refl refl h)
fill_said F.Poison bs ss h = word 108 (codes "lvm.poison") (32 ∷ 60 ∷ bs) _ _ refl refl refl (sign 60 bs S.Less ss refl refl refl h)

module _ (structs : List NamedStruct) (spelled : AreSpelled structs) where
  -- ---- what it ends with

  end_said : (t : TypeTree) → IsSpelledType structs t → (bs : Text) (ss : List Symbol) → symbols_of bs ≡ Some ss → symbols_of (type_text t ++ (codes ">" ++ bs)) ≡ Some (written t (S.Greater ∷ ss))
  end_said t fine bs ss h = type_said structs spelled t fine.0 (62 ∷ bs) _ refl (sign 62 bs S.Greater ss refl refl refl h)

  typed_said : (t : TypeTree) → IsSpelledType structs t → (bs : Text) (ss : List Symbol) → symbols_of bs ≡ Some ss → symbols_of (codes ": " ++ (type_text t ++ (codes ">" ++ bs))) ≡ Some (S.Colon ∷ written t (S.Greater ∷ ss))
  typed_said t fine bs ss h = sign 58 (32 ∷ type_text t ++ (62 ∷ bs)) S.Colon _ refl refl refl (end_said t fine bs ss h)

  -- ---- the text of a constant before others

  integer_said : (w n : ℕ) → w ≤ 2 ^ 23 → n < 2 ^ 64 → (bs : Text) (ss : List Symbol) → symbols_of bs ≡ Some ss → symbols_of (attr_text (IntegerAttr (IntType w) n) ++ bs) ≡ Some (attr_written (IntegerAttr (IntType w) n) ss)
  integer_said w n small fits bs ss h =
      let close = sign 62 bs S.Greater ss refl refl refl h in
      let bits = bits_by w (62 ∷ bs) _ (numeral w (omega arith)) refl close in
      let colon = sign 58 (32 ∷ 105 ∷ decimal w ++ (62 ∷ bs)) S.Colon _ refl refl refl bits in
      let number = number_by n (58 ∷ 32 ∷ 105 ∷ decimal w ++ (62 ∷ bs)) _ (numeral n fits) refl colon in
      let less = sign 60 (decimal n ++ (58 ∷ 32 ∷ 105 ∷ decimal w ++ (62 ∷ bs))) S.Less _ refl refl refl number in
      ap symbols_of (five (codes "builtin.integer <") (decimal n) (codes ": ") (inner_type_text (IntType w)) (codes ">") bs)
      ∙ word 98 (codes "uiltin.integer") (32 ∷ 60 ∷ decimal n ++ (58 ∷ 32 ∷ 105 ∷ decimal w ++ (62 ∷ bs))) S.Integer _ refl refl refl less

  mutual
    attr_said : (c : AttrTree) → IsAttrOfDialect structs c → (bs : Text) (ss : List Symbol) → symbols_of bs ≡ Some ss → symbols_of (attr_text c ++ bs) ≡ Some (attr_written c ss)
    attr_said (IntegerAttr VoidType n) fine bs ss h = let no = fine.0 in cc
    attr_said (IntegerAttr (IntType w) n) fine bs ss h = integer_said w n fine.1.0.1 fine.2 bs ss h
    attr_said (IntegerAttr (PointerType m) n) fine bs ss h = let no = fine.0 in cc
    attr_said (IntegerAttr (FloatingType of) n) fine bs ss h = let no = fine.0 in cc
    attr_said (IntegerAttr (RefusedType of) n) fine bs ss h = let no = fine.0 in cc
    attr_said (IntegerAttr (ArrayType m t) n) fine bs ss h = let no = fine.0 in cc
    attr_said (IntegerAttr (VectorType k m t) n) fine bs ss h = let no = fine.0 in cc
    attr_said (IntegerAttr (StructType l ts) n) fine bs ss h = let no = fine.0 in cc
    attr_said (IntegerAttr (NamedType name) n) fine bs ss h = let no = fine.0 in cc
    attr_said (IntegerAttr (FunctionType r ps v) n) fine bs ss h = let no = fine.0 in cc
    attr_said (FilledAttr fill t) fine bs ss h =
        ap symbols_of (three (fill_head fill) (type_text t) (codes ">") bs) ∙ fill_said fill (type_text t ++ (62 ∷ bs)) _ (end_said t fine bs ss h)
    attr_said (BytesAttr ns) fine bs ss h =
        let end = sign 93 (62 ∷ bs) S.CloseBracket _ refl refl refl (sign 62 bs S.Greater ss refl refl refl h) in
        let rest = joined (map decimal ns) ++ (codes "]>" ++ bs) in
        let open_ = sign 91 rest S.OpenBracket _ refl refl refl (bytes_said ns fine (codes "]>" ++ bs) _ refl end) in
        let less = sign 60 (91 ∷ rest) S.Less _ refl refl refl open_ in
        ap symbols_of (three (codes "llvm.bytes <[") (joined (map decimal ns)) (codes "]>") bs) ∙ word 108 (codes "lvm.bytes") (32 ∷ 60 ∷ 91 ∷ rest) S.Bytes _ refl refl refl less
    attr_said (AggregateAttr cs t) fine bs ss h =
        let type = type_text t ++ (codes ">" ++ bs) in
        let end = sign 93 (codes " : " ++ type) S.CloseBracket _ refl refl refl (typed_said t fine.1 bs ss h) in
        let rest = joined (attr_texts cs) ++ (codes "] : " ++ type) in
        let open_ = sign 91 rest S.OpenBracket _ refl refl refl (attrs_said cs fine.0 (codes "] : " ++ type) _ end) in
        let less = sign 60 (91 ∷ rest) S.Less _ refl refl refl open_ in
        ap symbols_of (five (codes "llvm.aggregate <[") (joined (attr_texts cs)) (codes "] : ") (type_text t) (codes ">") bs)
        ∙ word 108 (codes "lvm.aggregate") (32 ∷ 60 ∷ 91 ∷ rest) S.Aggregate _ refl refl refl less
    attr_said (SplatAttr c t) fine bs ss h =
        let type = type_text t ++ (codes ">" ++ bs) in
        let rest = attr_text c ++ (codes " : " ++ type) in
        let less = sign 60 rest S.Less _ refl refl refl (attr_said c fine.0 (codes " : " ++ type) _ (typed_said t fine.1 bs ss h)) in
        ap symbols_of (five (codes "llvm.splat <") (attr_text c) (codes " : ") (type_text t) (codes ">") bs) ∙ word 108 (codes "lvm.splat") (32 ∷ 60 ∷ rest) S.Splat _ refl refl refl less

    attrs_said : (cs : AttrTrees) → AreAttrsOfDialect structs cs → (bs : Text) (ss : List Symbol) → symbols_of bs ≡ Some ss → symbols_of (joined (attr_texts cs) ++ bs) ≡ Some (listed_attrs cs ss)
    attrs_said NoAttrs fine bs ss h = h
    attrs_said (ThenAttr c cs) fine bs ss h =
        ap symbols_of (append_assoc (attr_text c) (each_after (attr_texts cs)) bs) ∙ attr_said c fine.0 (each_after (attr_texts cs) ++ bs) _ (others_said cs fine.1 bs ss h)

    others_said : (cs : AttrTrees) → AreAttrsOfDialect structs cs → (bs : Text) (ss : List Symbol) → symbols_of bs ≡ Some ss → symbols_of (each_after (attr_texts cs) ++ bs) ≡ Some (other_attrs cs ss)
    others_said NoAttrs fine bs ss h = h
    others_said (ThenAttr c cs) fine bs ss h =
        let more = attr_said c fine.0 (each_after (attr_texts cs) ++ bs) _ (others_said cs fine.1 bs ss h) in
        ap symbols_of (ap (λ (x : Text). 44 ∷ 32 ∷ x) (append_assoc (attr_text c) (each_after (attr_texts cs)) bs)) ∙ sign 44 (32 ∷ attr_text c ++ (each_after (attr_texts cs) ++ bs)) S.Comma _ refl refl refl more

  pub text_spells_attr : (c : AttrTree) → IsAttrOfDialect structs c → attr_depth c ≤ 1000 → SpellsAttr structs (attr_text c) c
  text_spells_attr c fine fits = (ap symbols_of (sym (append-nil (attr_text c))) ∙ attr_said c fine [] [] refl, fine, fits)
