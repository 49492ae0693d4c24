-- Tables with the words of LLVM text give the classes of LLVM text.
use Rattle.std.proofs.Common.{◌≡◌, List, ℕ, refl, ap}
use Rattle.std.specs.Prelude.{unwrap_or}
use Rattle.ll_tokens.specs.declared.kinds.Kind.{Kind}
use Rattle.ll_tokens.specs.declared.kinds.Kind.TheVariants.{Word, MdName}
use Rattle.ll_classes.specs.declared.numbers.TheConstants.{MDNAME}
use Rattle.ll_classes.specs.declared.words.Words.{Words}
use Rattle.ll_classes.specs.Buckets.{Text}
use Rattle.ll_classes.specs.Names.{unescaped}
use Rattle.ll_classes.specs.Words.{Row, class_among}
use Rattle.ll_classes.specs.Classes.{class_of, names, other_word, words}
use Rattle.ll_classes.specs.Llvm.{llvm_class, llvm_names, llvm_rows}

pub class_is_llvm : (w : Words) → words w ≡ llvm_rows → names w ≡ llvm_names → (k : Kind) (t : Text) → class_of w k t ≡ llvm_class k t
unfolding class_of llvm_class
class_is_llvm w rows names_are Word t = ap (λ (rs : List Row). unwrap_or (class_among rs t) (other_word t)) rows
class_is_llvm w rows names_are MdName t = ap (λ (rs : List Row). unwrap_or (class_among rs (unescaped t)) MDNAME) names_are
class_is_llvm w rows names_are _ t = refl
