-- The class of a token: of words and names of metadata by their texts, of others by their kinds.
use Rattle.std.specs.Prelude.{ℕ, Bool, false, ◌&&◌, List, [], ◌∷◌, length, nat_lt, ◌==◌, if◌then◌else◌, unwrap_or}
use Rattle.std.specs.List.{list_all}
use Rattle.ll_tokens.specs.Bytes.{is_digit}
use Rattle.ll_tokens.specs.declared.kinds.Kind.{Kind}
use Rattle.ll_tokens.specs.declared.kinds.Kind.TheVariants.{Global, Local, Label, Word, Int, Str, CStr, Group, Record, MdNum, MdName, MdStr, Float, Comdat, Equals, Comma, OpenParen, CloseParen, OpenBracket, CloseBracket, OpenBrace, CloseBrace, Less, Greater, Bang, Bar, Dots}
use Rattle.ll_classes.specs.declared.numbers.TheConstants.{GLOBAL, LOCAL, LABEL, WORD, INT, STR, CSTR, GROUP, RECORD, MDNUM, MDNAME, MDSTR, FLOAT, REFUSED, INTTYPE, EQUALS, COMMA, OPEN_PAREN, CLOSE_PAREN, OPEN_BRACKET, CLOSE_BRACKET, OPEN_BRACE, CLOSE_BRACE, LESS, GREATER, BANG, BAR, DOTS}
use Rattle.ll_classes.specs.declared.words.Words.{Words}
use Rattle.ll_classes.specs.Buckets.{Text}
use Rattle.ll_classes.specs.Names.{unescaped}
use Rattle.ll_classes.specs.Words.{Row, class_among, bucket_words, words_of}

abbrev pub words : Words → List Row
words w = words_of w.texts.now w.words.now w.buckets.now

abbrev pub names : Words → List Row
names w = bucket_words w.texts.now w.words.now w.names

-- i and digits
abbrev pub is_int_type : Text → Bool
is_int_type [] = false
is_int_type (b ∷ bs) = b == 105 && nat_lt 0 (length bs) && list_all is_digit bs

-- of words that have no class of their own
abbrev pub other_word : Text → ℕ
other_word t = if is_int_type t then INTTYPE else WORD

-- a name of a comdat is refused everywhere
abbrev pub kind_class : Kind → ℕ
kind_class Global = GLOBAL
kind_class Local = LOCAL
kind_class Label = LABEL
kind_class Word = WORD
kind_class Int = INT
kind_class Str = STR
kind_class CStr = CSTR
kind_class Group = GROUP
kind_class Record = RECORD
kind_class MdNum = MDNUM
kind_class MdName = MDNAME
kind_class MdStr = MDSTR
kind_class Float = FLOAT
kind_class Comdat = REFUSED
kind_class Equals = EQUALS
kind_class Comma = COMMA
kind_class OpenParen = OPEN_PAREN
kind_class CloseParen = CLOSE_PAREN
kind_class OpenBracket = OPEN_BRACKET
kind_class CloseBracket = CLOSE_BRACKET
kind_class OpenBrace = OPEN_BRACE
kind_class CloseBrace = CLOSE_BRACE
kind_class Less = LESS
kind_class Greater = GREATER
kind_class Bang = BANG
kind_class Bar = BAR
kind_class Dots = DOTS

unfoldable pub class_of : Words → Kind → Text → ℕ
class_of w Word t = unwrap_or (class_among (words w) t) (other_word t)
class_of w MdName t = unwrap_or (class_among (names w) (unescaped t)) MDNAME
class_of w k t = kind_class k
