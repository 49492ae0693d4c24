-- How many parts the alternatives of each kind have: held tokens and rules. `grammar/form.py write` makes this of the grammar.
use Rattle.std.specs.Prelude.{ℕ}
use Rattle.ll_values.specs.declared.form.Kind.{Kind}
use Rattle.ll_values.specs.declared.form.Kind.TheVariants as K
use Rattle.ll_values.specs.declared.form.DetailKind.{DetailKind}
use Rattle.ll_values.specs.declared.form.DetailKind.TheVariants as D
use Rattle.ll_values.specs.declared.form.ListKind.{ListKind}
use Rattle.ll_values.specs.declared.form.ListKind.TheVariants as L
use Rattle.ll_values.specs.declared.form.RowKind.{RowKind}
use Rattle.ll_values.specs.declared.form.RowKind.TheVariants as R
use Rattle.ll_values.specs.declared.form.TypedKind.{TypedKind}
use Rattle.ll_values.specs.declared.form.TypedKind.TheVariants as T

abbrev pub detail_count : DetailKind → ℕ
detail_count D.Source = 1
detail_count D.Opaque = 0
detail_count D.External = 1
detail_count D.Space = 1
detail_count D.Param = 3
detail_count D.Label = 1
detail_count D.Named = 2
detail_count D.Bare = 1
detail_count D.Local = 1
detail_count D.Literal = 1
detail_count D.Null = 0
detail_count D.Chars = 1
detail_count D.Splat = 1
detail_count D.Inst = 2
detail_count D.Entry = 2
detail_count D.NoAlign = 0
detail_count D.Align = 2
detail_count D.Nuw = 1
detail_count D.Nsw = 0
detail_count D.NoWraps = 0

abbrev pub list_count : ListKind → ℕ
list_count L.FileMore = 2
list_count L.FileEnd = 0
list_count L.Structure = 2
list_count L.Define = 5
list_count L.Head = 5
list_count L.Parameters = 3
list_count L.ParamsMore = 2
list_count L.ParamsEnd = 0
list_count L.BodyMore = 2
list_count L.BodyEnd = 0
list_count L.TypesMore = 2
list_count L.TypesEnd = 0
list_count L.InArray = 1
list_count L.InStruct = 1
list_count L.ConstsMore = 2
list_count L.ConstsEnd = 0
list_count L.NonePacked = 0
list_count L.Braced = 2
list_count L.EntriesEnd = 0
list_count L.EntriesMore = 2

abbrev pub row_count : RowKind → ℕ
row_count R.Return = 1
row_count R.Unreachable = 0
row_count R.Sum = 3
row_count R.Quotient = 3
row_count R.Bits = 2
row_count R.Or = 2
row_count R.ICmp = 3
row_count R.Cast = 3
row_count R.Trunc = 3
row_count R.ZExt = 3
row_count R.Three = 4
row_count R.Freeze = 1
row_count R.VAArg = 2
row_count R.Load = 4
row_count R.Store = 4
row_count R.Jump = 1
row_count R.Branch = 3

abbrev pub typed_count : TypedKind → ℕ
typed_count T.Fields = 1
typed_count T.PackedFields = 1
typed_count T.Void = 0
typed_count T.Int = 1
typed_count T.Pointer = 1
typed_count T.Flat = 1
typed_count T.Array = 2
typed_count T.Named = 1
typed_count T.Struct = 1
typed_count T.Vector = 2
typed_count T.Scalable = 2
typed_count T.Packed = 1
typed_count T.Typed = 2
typed_count T.Pair = 3
typed_count T.InVector = 3
typed_count T.InPacked = 2
typed_count T.Phi = 3

abbrev pub part_count : Kind → ℕ
part_count K.Outside = 0
part_count K.Nothing = 0
part_count K.Same = 1
part_count K.Yes = 0
part_count K.No = 0
part_count (K.Detail k) = detail_count k
part_count (K.List k) = list_count k
part_count (K.Row k) = row_count k
part_count (K.Typed k) = typed_count k
