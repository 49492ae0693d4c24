-- The classes of the words, signs and kinds of tokens of the form. `grammar/form.py write` makes this of the grammar.
use Rattle.std.proofs.Common.{◌≡◌, ℕ, Some, Option, codes, refl, ap}
use Rattle.std.specs.Prelude.{unwrap_or}
use Rattle.ll_classes.specs.Classes.{other_word}
use Rattle.ll_classes.specs.Llvm.{llvm_class, llvm_rows}
use Rattle.ll_classes.specs.Words.{class_among}
use Rattle.ll_tokens.specs.declared.kinds.Kind.TheVariants.{Word, Global, Local, Label, Int, Str, CStr, Equals, Comma, OpenParen, CloseParen, OpenBracket, CloseBracket, OpenBrace, CloseBrace, Less, Greater}
use Rattle.ll_lines.specs.Lines.{Text}

abbrev pub inttype : ℕ
inttype = 12

abbrev pub flat : ℕ
flat = 28

pub kind_global : (t : Text) → llvm_class Global t ≡ 0
unfolding llvm_class
kind_global t = refl

pub kind_local : (t : Text) → llvm_class Local t ≡ 1
unfolding llvm_class
kind_local t = refl

pub kind_label : (t : Text) → llvm_class Label t ≡ 2
unfolding llvm_class
kind_label t = refl

pub kind_int : (t : Text) → llvm_class Int t ≡ 3
unfolding llvm_class
kind_int t = refl

pub kind_str : (t : Text) → llvm_class Str t ≡ 4
unfolding llvm_class
kind_str t = refl

pub kind_cstr : (t : Text) → llvm_class CStr t ≡ 5
unfolding llvm_class
kind_cstr t = refl

pub sign_equals : llvm_class Equals (codes "=") ≡ 43
unfolding llvm_class
sign_equals = refl

pub sign_comma : llvm_class Comma (codes ",") ≡ 44
unfolding llvm_class
sign_comma = refl

pub sign_openparen : llvm_class OpenParen (codes "(") ≡ 45
unfolding llvm_class
sign_openparen = refl

pub sign_closeparen : llvm_class CloseParen (codes ")") ≡ 46
unfolding llvm_class
sign_closeparen = refl

pub sign_openbracket : llvm_class OpenBracket (codes "[") ≡ 47
unfolding llvm_class
sign_openbracket = refl

pub sign_closebracket : llvm_class CloseBracket (codes "]") ≡ 48
unfolding llvm_class
sign_closebracket = refl

pub sign_openbrace : llvm_class OpenBrace (codes "{") ≡ 49
unfolding llvm_class
sign_openbrace = refl

pub sign_closebrace : llvm_class CloseBrace (codes "}") ≡ 50
unfolding llvm_class
sign_closebrace = refl

pub sign_less : llvm_class Less (codes "<") ≡ 51
unfolding llvm_class
sign_less = refl

pub sign_greater : llvm_class Greater (codes ">") ≡ 52
unfolding llvm_class
sign_greater = refl

-- a word has the class that stands beside it among all words
pub word_class : (t : Text) (c : ℕ) → class_among llvm_rows t ≡ Some c → llvm_class Word t ≡ c
unfolding llvm_class
word_class t c found = ap (λ (o : Option ℕ). unwrap_or o (other_word t)) found

pub word_addrspace : llvm_class Word (codes "addrspace") ≡ 63
word_addrspace = word_class (codes "addrspace") 63 refl

pub word_align : llvm_class Word (codes "align") ≡ 65
word_align = word_class (codes "align") 65 refl

pub word_br : llvm_class Word (codes "br") ≡ 73
word_br = word_class (codes "br") 73 refl

pub word_define : llvm_class Word (codes "define") ≡ 78
word_define = word_class (codes "define") 78 refl

pub word_external : llvm_class Word (codes "external") ≡ 85
word_external = word_class (codes "external") 85 refl

pub word_freeze : llvm_class Word (codes "freeze") ≡ 89
word_freeze = word_class (codes "freeze") 89 refl

pub word_icmp : llvm_class Word (codes "icmp") ≡ 91
word_icmp = word_class (codes "icmp") 91 refl

pub word_label : llvm_class Word (codes "label") ≡ 96
word_label = word_class (codes "label") 96 refl

pub word_load : llvm_class Word (codes "load") ≡ 97
word_load = word_class (codes "load") 97 refl

pub word_nneg : llvm_class Word (codes "nneg") ≡ 98
word_nneg = word_class (codes "nneg") 98 refl

pub word_nsw : llvm_class Word (codes "nsw") ≡ 100
word_nsw = word_class (codes "nsw") 100 refl

pub word_null : llvm_class Word (codes "null") ≡ 101
word_null = word_class (codes "null") 101 refl

pub word_nuw : llvm_class Word (codes "nuw") ≡ 102
word_nuw = word_class (codes "nuw") 102 refl

pub word_opaque : llvm_class Word (codes "opaque") ≡ 103
word_opaque = word_class (codes "opaque") 103 refl

pub word_or : llvm_class Word (codes "or") ≡ 104
word_or = word_class (codes "or") 104 refl

pub word_phi : llvm_class Word (codes "phi") ≡ 105
word_phi = word_class (codes "phi") 105 refl

pub word_ptr : llvm_class Word (codes "ptr") ≡ 106
word_ptr = word_class (codes "ptr") 106 refl

pub word_ret : llvm_class Word (codes "ret") ≡ 107
word_ret = word_class (codes "ret") 107 refl

pub word_source_filename : llvm_class Word (codes "source_filename") ≡ 111
word_source_filename = word_class (codes "source_filename") 111 refl

pub word_splat : llvm_class Word (codes "splat") ≡ 112
word_splat = word_class (codes "splat") 112 refl

pub word_store : llvm_class Word (codes "store") ≡ 113
word_store = word_class (codes "store") 113 refl

pub word_to : llvm_class Word (codes "to") ≡ 117
word_to = word_class (codes "to") 117 refl

pub word_trunc : llvm_class Word (codes "trunc") ≡ 118
word_trunc = word_class (codes "trunc") 118 refl

pub word_type : llvm_class Word (codes "type") ≡ 119
word_type = word_class (codes "type") 119 refl

pub word_unreachable : llvm_class Word (codes "unreachable") ≡ 120
word_unreachable = word_class (codes "unreachable") 120 refl

pub word_va_arg : llvm_class Word (codes "va_arg") ≡ 122
word_va_arg = word_class (codes "va_arg") 122 refl

pub word_void : llvm_class Word (codes "void") ≡ 123
word_void = word_class (codes "void") 123 refl

pub word_volatile : llvm_class Word (codes "volatile") ≡ 124
word_volatile = word_class (codes "volatile") 124 refl

pub word_vscale : llvm_class Word (codes "vscale") ≡ 125
word_vscale = word_class (codes "vscale") 125 refl

pub word_x : llvm_class Word (codes "x") ≡ 127
word_x = word_class (codes "x") 127 refl

pub word_zext : llvm_class Word (codes "zext") ≡ 128
word_zext = word_class (codes "zext") 128 refl

pub word_false : llvm_class Word (codes "false") ≡ 29
word_false = word_class (codes "false") 29 refl

pub word_poison : llvm_class Word (codes "poison") ≡ 29
word_poison = word_class (codes "poison") 29 refl

pub word_true : llvm_class Word (codes "true") ≡ 29
word_true = word_class (codes "true") 29 refl

pub word_undef : llvm_class Word (codes "undef") ≡ 29
word_undef = word_class (codes "undef") 29 refl

pub word_zeroinitializer : llvm_class Word (codes "zeroinitializer") ≡ 29
word_zeroinitializer = word_class (codes "zeroinitializer") 29 refl

pub word_bitcast : llvm_class Word (codes "bitcast") ≡ 30
word_bitcast = word_class (codes "bitcast") 30 refl

pub word_inttoptr : llvm_class Word (codes "inttoptr") ≡ 30
word_inttoptr = word_class (codes "inttoptr") 30 refl

pub word_ptrtoint : llvm_class Word (codes "ptrtoint") ≡ 30
word_ptrtoint = word_class (codes "ptrtoint") 30 refl

pub word_add : llvm_class Word (codes "add") ≡ 31
word_add = word_class (codes "add") 31 refl

pub word_sub : llvm_class Word (codes "sub") ≡ 31
word_sub = word_class (codes "sub") 31 refl

pub word_insertelement : llvm_class Word (codes "insertelement") ≡ 32
word_insertelement = word_class (codes "insertelement") 32 refl

pub word_select : llvm_class Word (codes "select") ≡ 32
word_select = word_class (codes "select") 32 refl

pub word_mul : llvm_class Word (codes "mul") ≡ 33
word_mul = word_class (codes "mul") 33 refl

pub word_shl : llvm_class Word (codes "shl") ≡ 33
word_shl = word_class (codes "shl") 33 refl

pub word_ashr : llvm_class Word (codes "ashr") ≡ 34
word_ashr = word_class (codes "ashr") 34 refl

pub word_lshr : llvm_class Word (codes "lshr") ≡ 34
word_lshr = word_class (codes "lshr") 34 refl

pub word_sdiv : llvm_class Word (codes "sdiv") ≡ 34
word_sdiv = word_class (codes "sdiv") 34 refl

pub word_udiv : llvm_class Word (codes "udiv") ≡ 34
word_udiv = word_class (codes "udiv") 34 refl

pub word_srem : llvm_class Word (codes "srem") ≡ 35
word_srem = word_class (codes "srem") 35 refl

pub word_urem : llvm_class Word (codes "urem") ≡ 35
word_urem = word_class (codes "urem") 35 refl

pub word_and : llvm_class Word (codes "and") ≡ 36
word_and = word_class (codes "and") 36 refl

pub word_xor : llvm_class Word (codes "xor") ≡ 36
word_xor = word_class (codes "xor") 36 refl

pub word_eq : llvm_class Word (codes "eq") ≡ 37
word_eq = word_class (codes "eq") 37 refl

pub word_ne : llvm_class Word (codes "ne") ≡ 37
word_ne = word_class (codes "ne") 37 refl

pub word_sge : llvm_class Word (codes "sge") ≡ 37
word_sge = word_class (codes "sge") 37 refl

pub word_sgt : llvm_class Word (codes "sgt") ≡ 37
word_sgt = word_class (codes "sgt") 37 refl

pub word_sle : llvm_class Word (codes "sle") ≡ 37
word_sle = word_class (codes "sle") 37 refl

pub word_slt : llvm_class Word (codes "slt") ≡ 37
word_slt = word_class (codes "slt") 37 refl

pub word_uge : llvm_class Word (codes "uge") ≡ 37
word_uge = word_class (codes "uge") 37 refl

pub word_ugt : llvm_class Word (codes "ugt") ≡ 37
word_ugt = word_class (codes "ugt") 37 refl

pub word_ule : llvm_class Word (codes "ule") ≡ 37
word_ule = word_class (codes "ule") 37 refl

pub word_ult : llvm_class Word (codes "ult") ≡ 37
word_ult = word_class (codes "ult") 37 refl

pub word_addrspacecast : llvm_class Word (codes "addrspacecast") ≡ 38
word_addrspacecast = word_class (codes "addrspacecast") 38 refl

pub word_sext : llvm_class Word (codes "sext") ≡ 38
word_sext = word_class (codes "sext") 38 refl
