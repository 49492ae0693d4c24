-- The data of each kind of constant.
use Rattle.std.proofs.Common.{◌≡◌, ℕ, Vec, Box, Global, rules}
use Rattle.dialect_types.specs.declared.types.TypeHandle.{TypeHandle}
use Rattle.kinds.specs.declared.fill.Fill.TheVariants as F
use Rattle.const_attrs.specs.declared.const_attr.ConstAttr.{ConstAttr, the_lemmas}
use Rattle.const_attrs.specs.declared.const_attr.ConstAttr.TheVariants as A
use Rattle.const_attrs.specs.Trees.{IntegerAttr, FilledAttr, BytesAttr, AggregateAttr, SplatAttr, attr_data, attrs_data}

pub integer_data : (t : TypeHandle) (n : ℕ) → attr_data (A.Integer t n) ≡ IntegerAttr t n
integer_data t n = search (rules, the_lemmas)

pub aggregate_data : (cs : Vec ConstAttr Global) (t : TypeHandle) → attr_data (A.Aggregate cs t) ≡ AggregateAttr (attrs_data cs.items) t
aggregate_data cs t = search (rules, the_lemmas)

pub zero_data : (t : TypeHandle) → attr_data (A.Zero t) ≡ FilledAttr F.Zero t
zero_data t = search (rules, the_lemmas)

pub undef_data : (t : TypeHandle) → attr_data (A.Undef t) ≡ FilledAttr F.Undef t
undef_data t = search (rules, the_lemmas)

pub poison_data : (t : TypeHandle) → attr_data (A.Poison t) ≡ FilledAttr F.Poison t
poison_data t = search (rules, the_lemmas)

pub bytes_data : (bytes : Vec ℕ Global) → attr_data (A.Bytes bytes) ≡ BytesAttr bytes.items
bytes_data bytes = search (rules, the_lemmas)

pub splat_data : (c : Box ConstAttr Global) (t : TypeHandle) → attr_data (A.Splat c t) ≡ SplatAttr (attr_data c.value) t
splat_data c t = search (rules, the_lemmas)
