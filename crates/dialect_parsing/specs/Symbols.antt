-- What the tokens of a text say.
use Rattle.std.specs.Prelude.{true, false, ◌==◌, if◌then◌else◌, List, [], ◌∷◌, Option, Some, None, codes}
use Rattle.std.specs.Option.{option_map, option_and_then, option_or}
use Rattle.std.specs.Map.{lookup}
use Rattle.std.specs.Str.{bytes_eq, is_utf8}
use Rattle.kinds.specs.Names.{is_digit}
use Rattle.kinds.specs.declared.types.Floating.TheVariants as F
use Rattle.kinds.specs.declared.fill.Fill.TheVariants.{Zero, Undef, Poison}
use Rattle.dialect_parsing.specs.declared.symbol.Symbol.{Symbol}
use Rattle.dialect_parsing.specs.declared.symbol.Symbol.TheVariants.{Void, Integer, Pointer, Func, Array, Vector, Struct, Floating, Filled, Bytes, Aggregate, Splat, Variadic, Truth, Vscale, Times, Packed, OpenParen, CloseParen, OpenBracket, CloseBracket, OpenBrace, CloseBrace, Less, Greater, Comma, Colon, Equals, Number, Bits, Name}
use Rattle.dialect_parsing.specs.Numbers.{number_of}
use Rattle.dialect_parsing.specs.Tokens.{Text, tokens_of}

-- the words that types begin with, a row for each
abbrev pub head_rows : List (Text × Symbol)
head_rows =
    (codes "llvm.void", Void) ∷ (codes "builtin.integer", Integer) ∷ (codes "llvm.ptr", Pointer) ∷ (codes "llvm.func", Func) ∷ (codes "llvm.array", Array) ∷ (codes "llvm.vector", Vector)
    ∷ (codes "llvm.struct", Struct) ∷ []

abbrev pub floating_rows : List (Text × Symbol)
floating_rows =
    (codes "builtin.fp16", Floating F.Half) ∷ (codes "builtin.bf16", Floating F.BFloat) ∷ (codes "builtin.fp32", Floating F.Float) ∷ (codes "builtin.fp64", Floating F.Double) ∷ []

-- the words that constants begin with, but the one that a type begins with as well
abbrev pub constant_rows : List (Text × Symbol)
constant_rows =
    (codes "llvm.zero", Filled Zero) ∷ (codes "llvm.undef", Filled Undef) ∷ (codes "llvm.poison", Filled Poison) ∷ (codes "llvm.bytes", Bytes) ∷ (codes "llvm.aggregate", Aggregate) ∷ (codes "llvm.splat", Splat) ∷ []

-- the words inside types
abbrev pub inner_rows : List (Text × Symbol)
inner_rows = (codes "variadic", Variadic) ∷ (codes "true", Truth true) ∷ (codes "false", Truth false) ∷ (codes "vscale", Vscale) ∷ (codes "x", Times) ∷ (codes "packed", Packed) ∷ []

abbrev pub sign_rows : List (Text × Symbol)
sign_rows =
    (codes "(", OpenParen) ∷ (codes ")", CloseParen) ∷ (codes "[", OpenBracket) ∷ (codes "]", CloseBracket) ∷ (codes "{", OpenBrace) ∷ (codes "}", CloseBrace) ∷ (codes "<", Less) ∷ (codes ">", Greater) ∷ (codes ",", Comma) ∷ (codes ":", Colon) ∷ (codes "=", Equals) ∷ []

-- what a word or a sign of types and constants says
abbrev pub word_of : Text → Option Symbol
word_of t =
    option_or (option_or (option_or (option_or (lookup (bytes_eq t) sign_rows) (lookup (bytes_eq t) head_rows)) (lookup (bytes_eq t) floating_rows)) (lookup (bytes_eq t) constant_rows)) (lookup (bytes_eq t) inner_rows)

-- a name, where it is UTF-8
abbrev pub if_name : Text → Option Symbol
if_name t = if is_utf8 t then Some (Name t) else None

-- what a token says: a number, `i` and a number, `@` and a name, or a word or sign; none where it stands in no type and no constant
abbrev pub symbol_of : Text → Option Symbol
symbol_of [] = None
symbol_of (b ∷ bs) =
    if is_digit b then option_map Number (number_of (b ∷ bs))
    else (if b == 105 then option_map Bits (number_of bs)
    else (if b == 64 then if_name bs
    else word_of (b ∷ bs)))

-- one more at the front
abbrev pub with_first : Option Symbol → Option (List Symbol) → Option (List Symbol)
with_first (Some s) (Some ss) = Some (s ∷ ss)
with_first first others = None

abbrev pub said : List Text → Option (List Symbol)
said [] = Some []
said (t ∷ ts) = with_first (symbol_of t) (said ts)

-- what the tokens of a text say, one by one
abbrev pub symbols_of : Text → Option (List Symbol)
symbols_of bytes = option_and_then said (tokens_of bytes)
