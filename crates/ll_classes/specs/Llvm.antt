-- The words of LLVM text, and the classes of its tokens.
use Rattle.std.specs.Prelude.{ℕ, List, unwrap_or}
use Rattle.ll_tokens.specs.declared.kinds.Kind.{Kind}
use Rattle.ll_tokens.specs.declared.kinds.Kind.TheVariants.{Word, MdName}
use Rattle.ll_classes.specs.declared.numbers.TheConstants.{MDNAME}
use Rattle.ll_classes.specs.declared.llvm_words.TheConstants.{TEXTS, WORDS, BUCKETS, NAMES}
use Rattle.ll_classes.specs.Buckets.{Text}
use Rattle.ll_classes.specs.Names.{unescaped}
use Rattle.ll_classes.specs.Words.{Row, bucket_words, class_among, words_of}
use Rattle.ll_classes.specs.Classes.{kind_class, other_word}

abbrev pub llvm_rows : List Row
llvm_rows = words_of TEXTS WORDS BUCKETS

abbrev pub llvm_names : List Row
llvm_names = bucket_words TEXTS WORDS NAMES

-- the class of a token of LLVM text
unfoldable pub llvm_class : Kind → Text → ℕ
llvm_class Word t = unwrap_or (class_among llvm_rows t) (other_word t)
llvm_class MdName t = unwrap_or (class_among llvm_names (unescaped t)) MDNAME
llvm_class k t = kind_class k
