-- What an import answers of the refusals of what it calls.
use Rattle.dialect_types.specs.declared.struct_err.StructErr.{StructErr}
use Rattle.dialect_types.specs.declared.struct_err.StructErr.TheVariants as S
use Rattle.held_types.specs.declared.held_structs.HeldErr.{HeldErr}
use Rattle.held_types.specs.declared.held_structs.HeldErr.TheVariants as H
use Rattle.from_consts.specs.declared.conversion_err.ConversionErr.{ConversionErr}
use Rattle.from_consts.specs.declared.conversion_err.ConversionErr.TheVariants as E
use Rattle.from_consts.specs.declared.conversion_err.Unsupported.TheVariants as U

abbrev pub of_held : HeldErr → ConversionErr
of_held (H.Lacks of) = E.Unsupported (U.Ty of)
of_held (H.TooWide width) = E.IntConstTooWide width
of_held H.ScalableSplat = E.Unsupported U.ScalableSplat
of_held H.NoMemory = E.NoMemory

-- want of memory has an answer of its own
abbrev pub of_struct : StructErr → ConversionErr
of_struct (S.DifferentBody identifier) = E.Struct (S.DifferentBody identifier)
of_struct S.NoMemory = E.NoMemory
