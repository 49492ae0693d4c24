-- Words with classes, in tables, and the check of these.
use Rattle.std.specs.Prelude.{ℕ, suc, Bool, true, ◌&&◌, nat_eq, nat_lt, List, [], ◌∷◌, map, flat_map, Option, Some, None, is_none}
use Rattle.std.specs.Map.{lookup}
use Rattle.std.specs.Str.{bytes_eq}
use Rattle.grammars.specs.Flat.{part}
use Rattle.ll_classes.specs.Buckets.{Text, bucket_of}
use Rattle.ll_classes.specs.declared.numbers.TheConstants.{CLASSES}
use Rattle.ll_classes.specs.declared.words.Word.{Word}
use Rattle.ll_classes.specs.declared.words.Bucket.{Bucket}

-- a word is its text and its class
abbrev pub Row : Type 0
Row = Text × ℕ

-- the class of the word of that text
abbrev pub class_among : List Row → Text → Option ℕ
class_among rows t = lookup (bytes_eq t) rows

-- ---- what the tables say

abbrev pub row_of : (texts : List ℕ) → Word → Row
row_of texts w = (part texts w.start w.end, w.class)

abbrev pub words_in : (texts : List ℕ) → List Word → List Row
words_in texts words = map (row_of texts) words

abbrev pub bucket_words : (texts : List ℕ) → List Word → Bucket → List Row
bucket_words texts words b = words_in texts (part words b.start b.end)

-- the words of a bucket, none where there is no such bucket
abbrev pub words_at : (texts : List ℕ) → List Word → Option Bucket → List Row
words_at texts words None = []
words_at texts words (Some b) = bucket_words texts words b

-- of all buckets
abbrev pub words_of : (texts : List ℕ) → List Word → List Bucket → List Row
words_of texts words buckets = flat_map (bucket_words texts words) buckets

-- ---- the check

-- each text stands once, and each class is one of those that there are
abbrev pub are_single : List Row → Bool
are_single [] = true
are_single (r ∷ rs) = (nat_lt r.1 CLASSES && is_none (class_among rs r.0)) && are_single rs

-- each word stands in the bucket of its text
abbrev pub stand_in : (bucket : ℕ) → List Row → Bool
stand_in n [] = true
stand_in n (r ∷ rs) = nat_eq (bucket_of r.0) n && stand_in n rs

-- of buckets, the first of that number
abbrev pub are_kept : (texts : List ℕ) → List Word → ℕ → List Bucket → Bool
are_kept texts words n [] = true
are_kept texts words n (b ∷ bs) = (stand_in n (bucket_words texts words b) && are_single (bucket_words texts words b)) && are_kept texts words (suc n) bs

abbrev pub are_right : (texts : List ℕ) → List Word → List Bucket → (names : Bucket) → Bool
are_right texts words buckets names = are_kept texts words 0 buckets && are_single (bucket_words texts words names)
