-- The texts of each kind are whole.
use Rattle.std.proofs.Common.{◌≡◌, ℕ, suc, ◌+◌, true, List, [], ◌∷◌, ◌++◌, length, length-append, append_assoc, codes, refl, ap, ◌∙◌, arith}
use Rattle.std.specs.List.{prefix_len, list_all}
use Rattle.std.proofs.lemmas.Bool.{and_parts}
use Rattle.std.proofs.lemmas.Bool.Decides.{nat_tests}
use Rattle.ll_tokens.specs.Bytes.{is_digit, is_name_byte, is_word_start, is_word_byte}
use Rattle.ll_tokens.specs.declared.kinds.Kind.{Kind}
use Rattle.ll_tokens.specs.declared.kinds.Kind.TheVariants.{Global, Local, Label, Word, Str, CStr, Group, Record, MdNum, MdName, MdStr}
use Rattle.ll_tokens.specs.Pieces.{token, name_at, bang_at, hash_at, begins_record, dots_at, bare_at, piece_at}
use Rattle.ll_spacing.specs.Spacing.{IsWhole}
use Rattle.ll_spacing.specs.Forms.{AreDigits, IsString, IsName, IsText, is_word}
use Rattle.ll_spacing.specs.Forms.IsString.{quoted}
use Rattle.ll_spacing.proofs.WordLaws.{c_string}
use Rattle.ll_spacing.proofs.WholeLaws.{all_run, closes_there, string_run, plain_string, string_label, bare_name, digits_name, string_name, bang_number, bang_string, bang_name, name_digits, name_piece, name_label, plain_comdat, word_whole}
use Rattle.ll_spacing.proofs.WholeFloatLaws.{int_whole, point_whole, power_whole, hex_whole}
use Rattle.ll_spacing.proofs.SignLaws.{sign_whole}

-- a token of that length, by whichever name
as_long : (k : Kind) (m n : ℕ) → m ≡ n → token k m ≡ token k n
as_long k m n e = ap (λ (l : ℕ). token k l) e

name_whole : (k : Kind) (bs : List ℕ) → IsName bs → name_at k bs ≡ token k (suc (length bs))
name_whole k bs (IsName.bare b ns d e) = bare_name k b ns d e ∙ as_long k _ _ (omega arith)
name_whole k bs (IsName.digits b ds e) = digits_name k b ds e ∙ as_long k _ _ (omega arith)
name_whole k bs (IsName.string qs (quoted s e)) = string_name k s e ∙ as_long k _ _ (omega (arith, length-append s (codes "\"")))

label_whole : (bs : List ℕ) → IsName bs → IsWhole Label (bs ++ codes ":")
unfolding piece_at
label_whole bs (IsName.bare b ns d e) =
    let name = (and_parts (is_name_byte b) (list_all is_name_byte ns) e).0 in
    name_piece b (ns ++ codes ":") name ∙ name_label b ns e ∙ as_long Label _ _ (omega (arith, length-append ns (codes ":")))
label_whole bs (IsName.digits b ds e) =
    let names = name_digits (b ∷ ds) e in
    let name = (and_parts (is_name_byte b) (list_all is_name_byte ds) names).0 in
    name_piece b (ds ++ codes ":") name ∙ name_label b ds names ∙ as_long Label _ _ (omega (arith, length-append ds (codes ":")))
label_whole bs (IsName.string qs (quoted s e)) =
    rw (append_assoc s (codes "\"") (codes ":")) (string_label s e ∙ as_long Label _ _ (omega (arith, length-append s (34 ∷ 58 ∷ []))))

c_string_whole : (bs : List ℕ) → IsString bs → IsWhole CStr (codes "c" ++ bs)
unfolding bare_at
c_string_whole bs (quoted s e) =
    let closed = closes_there s [] e in
    name_piece 99 (34 ∷ s ++ 34 ∷ []) refl ∙ c_string 99 (34 ∷ s ++ 34 ∷ []) closed ∙ as_long CStr _ _ (omega (arith, string_run s [] e, length-append s (codes "\"")))

pub group_whole : (b : ℕ) (bs : List ℕ) → AreDigits (b ∷ bs) → IsWhole Group (codes "#" ++ b ∷ bs)
unfolding piece_at hash_at
group_whole b bs e =
    let both = and_parts (is_digit b) (list_all is_digit bs) e in
    let len : 1 + suc (length bs) ≡ suc (suc (length bs)) = omega arith in
    rw (all_run is_digit (b ∷ bs) e, both.0, len) refl

pub record_whole : (b : ℕ) (bs : List ℕ) → list_all is_word_start (b ∷ bs) ≡ true → IsWhole Record (codes "#dbg_" ++ b ∷ bs)
unfolding piece_at hash_at
record_whole b bs e =
    let both = and_parts (is_word_start b) (list_all is_word_start bs) e in
    let run : prefix_len is_word_start (codes "dbg_" ++ b ∷ bs) ≡ length (codes "dbg_" ++ b ∷ bs) = all_run is_word_start (codes "dbg_" ++ b ∷ bs) e in
    let begins : begins_record (codes "dbg_" ++ b ∷ bs) ≡ true = both.0 in
    rw (run, begins) (as_long Record _ _ (omega arith))

text_of_word : (bs : List ℕ) → is_word bs ≡ true → IsWhole Word bs
text_of_word [] e = absurd cc
text_of_word (b ∷ bs) e =
    let both = and_parts (is_word_start b) (list_all is_word_byte bs) e in
    name_piece b bs (let name : is_name_byte b ≡ true = grind (arith, nat_tests) in name) ∙ word_whole b bs both.0 both.1 ∙ as_long Word _ _ (omega arith)

pub text_whole : (k : Kind) (t : List ℕ) → IsText k t → IsWhole k t
unfolding piece_at bang_at bare_at dots_at
text_whole k t (IsText.sign j b e) = sign_whole j b e
text_whole k t IsText.bang = refl
text_whole k t IsText.dots = refl
text_whole k t (IsText.global bs n) = name_whole Global bs n
text_whole k t (IsText.local bs n) = name_whole Local bs n
text_whole k t (IsText.label bs n) = label_whole bs n
text_whole k t (IsText.word bs e) = text_of_word bs e
text_whole k t (IsText.int bs is) = int_whole bs is
text_whole k t (IsText.point bs fs is digits) = point_whole bs fs is digits
text_whole k t (IsText.power bs fs es s e is digits sign more) = power_whole bs fs es s e is digits sign more
text_whole k t (IsText.hex b bs e) = hex_whole b bs e
text_whole k t (IsText.string bs (quoted s e)) = plain_string s e ∙ as_long Str _ _ (omega (arith, length-append s (codes "\"")))
text_whole k t (IsText.c_string bs is) = c_string_whole bs is
text_whole k t (IsText.group b bs e) = group_whole b bs e
text_whole k t (IsText.dbg b bs e) = record_whole b bs e
text_whole k t (IsText.md_number b bs e) = bang_number b bs e ∙ as_long MdNum _ _ (omega arith)
text_whole k t (IsText.md_name b bs d e) = bang_name b bs d e ∙ as_long MdName _ _ (omega arith)
text_whole k t (IsText.md_string bs (quoted s e)) = bang_string s e ∙ as_long MdStr _ _ (omega (arith, length-append s (codes "\"")))
text_whole k t (IsText.comdat bs e) = name_piece 36 bs refl ∙ plain_comdat bs e ∙ as_long _ _ _ (omega arith)
