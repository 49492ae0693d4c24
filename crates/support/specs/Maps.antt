-- Maps, as the code names them.
use Rattle.std.specs.declared.alloc.Global.{Global}
use Rattle.std.specs.declared.collections.HashMap.{HashMap}
use Rattle.std.specs.declared.hash.BuildHasherDefault.{BuildHasherDefault}
use Rattle.std.specs.declared.hash.FoldHasher.{FoldHasher}

-- `HashMap<K, V>` of the code, with the hasher and the allocator that it has where none is named
abbrev pub MapOf : Type 0 → Type 0 → Type 0
MapOf K V = HashMap K V (BuildHasherDefault FoldHasher) Global FoldHasher
