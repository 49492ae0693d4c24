-- Bytes that keep what stood there before, and texts with commas between them.
use Rattle.std.proofs.Common.{◌≡◌, ◌≤◌, ◌<◌, ◌+◌, ℕ, zero, suc, Ok, Err, Bool, Option, Some, None, List, [], ◌∷◌, ◌++◌, length, slice_get, subst, get_or, take, map, refl, sym, ◌∙◌, ap, append_assoc, arith}
use Rattle.std.specs.Prelude.{IfSome, OnOk, Result, codes, is_ok, if◌then◌else◌}
use Rattle.std.specs.List.{filter_map, flat_map, cons_option}
use Rattle.std.specs.Option.{option_map_or}
use Rattle.std.proofs.lemmas.List.Elements.{filter_map-append}
use Rattle.std.proofs.lemmas.Grind.{flat_map-append}
use Rattle.support.proofs.ListLaws.{take_next}
use Rattle.std.proofs.Math.Seq.{take-length}
use Rattle.std.proofs.lemmas.List.{append-nil, take_more, map-append, length-map, length-take-le}
use Rattle.dialect_types.specs.declared.types.TypeHandle.{TypeHandle}
use Rattle.dialect_types.specs.declared.types.StructFields.{StructFields}
use Rattle.dialect_types.specs.declared.types.TypeKind.{TypeKind}
use Rattle.dialect_types.specs.declared.types.TypeKind.TheVariants.{Named}
use Rattle.dialect_types.specs.Trees.{TypeTree, NamedStruct, types_at, type_at, type_trees, struct_of, structs_of, AllBelow, HasPartsBelow}
pub use Rattle.support.proofs.KeepLaws.{keeps_same, keeps_more, keeps_then, keeps_appended, keeps_equal, keeps_extended}
use Rattle.dialect_types.proofs.PrintedTypes.{reach}
use Rattle.dialect_types.specs.Text.{body_text, struct_text, comma_before, each_after, joined, truth_text, type_text, type_texts}

-- ---- commas

each_after-push : (xs : List (List ℕ)) (x : List ℕ) → each_after (xs ++ x ∷ []) ≡ each_after xs ++ (44 ∷ 32 ∷ x)
each_after-push [] x = simp append-nil
each_after-push (y ∷ xs) x = rw (each_after-push xs x, append_assoc)

pub joined-push : (xs : List (List ℕ)) (x : List ℕ) → joined (xs ++ x ∷ []) ≡ joined xs ++ (comma_before (length xs) ++ x)
joined-push [] x = append-nil x
joined-push (y ∷ xs) x = rw (each_after-push xs x) (sym (append_assoc y (each_after xs) (44 ∷ 32 ∷ x)))

-- the texts of one more item
pub joined_more : {X : Type 0} (f : X → List ℕ) (xs : List X) (i : ℕ) (d : X) → i < length xs → joined (map f (take (i + 1) xs)) ≡ joined (map f (take i xs)) ++ (comma_before i ++ f (get_or xs i d))
joined_more {X} f xs i d h =
    let few : length (map f (take i xs)) ≡ i = length-map (take i xs) f ∙ length-take-le i xs (omega arith) in
    ap (λ (ys : List X). joined (map f ys)) (take_more xs i d h)
    ∙ ap joined (map-append f (take i xs) (get_or xs i d ∷ []))
    ∙ joined-push (map f (take i xs)) (f (get_or xs i d))
    ∙ ap (λ (n : ℕ). joined (map f (take i xs)) ++ (comma_before n ++ f (get_or xs i d))) few

-- the texts of types are those of their numbers
pub type_texts-map : (ts : List TypeTree) (xs : List TypeHandle) → type_texts (types_at ts xs) ≡ map (λ (x : TypeHandle). type_text (type_at ts x)) xs
type_texts-map ts [] = refl
type_texts-map ts (x ∷ xs) = ap (λ (ys : List (List ℕ)). type_text (type_at ts x) ∷ ys) (type_texts-map ts xs)

pub AllBelow-at : (n : ℕ) (xs : List TypeHandle) (i : ℕ) (d : TypeHandle) → AllBelow n xs → i < length xs → (get_or xs i d).0 < n
AllBelow-at n [] i d h l = absurd (omega arith)
AllBelow-at n (x ∷ xs) zero d h l = h.0
AllBelow-at n (x ∷ xs) (suc i) d h l = AllBelow-at n xs i d h.1 (omega arith)

pub AllBelow-more : (n m : ℕ) (xs : List TypeHandle) → n ≤ m → AllBelow n xs → AllBelow m xs
AllBelow-more n m [] h p = tt
AllBelow-more n m (x ∷ xs) h p = (omega (arith, p.0), AllBelow-more n m xs h p.1)

-- the numbers of a list are below where it reaches, and that is no further than what they are below
pub reach-at : (xs : List TypeHandle) (i : ℕ) (d : TypeHandle) → i < length xs → (get_or xs i d).0 < reach xs
reach-at [] i d l = absurd (omega arith)
reach-at (x ∷ xs) zero d l = omega arith
reach-at (x ∷ xs) (suc i) d l = omega (arith, reach-at xs i d (omega arith))

pub reach-below : (n : ℕ) (xs : List TypeHandle) → AllBelow n xs → reach xs ≤ n
reach-below n [] p = omega arith
reach-below n (x ∷ xs) p = omega (arith, p.0, reach-below n xs p.1)

-- the parts of a type are earlier ones, and so are what is called with them: the list's numbers are those of a store, and it reaches no further than the type
pub earlier_parts : (n m : ℕ) (xs ys : List TypeHandle) → ys ≡ xs → n < m → AllBelow n xs → AllBelow m ys × (reach ys ≤ n)
earlier_parts n m xs ys same h p = rw same (AllBelow-more n m xs (omega arith) p, reach-below n xs p)

-- a comma and the next text have been appended
pub joined_step : {X : Type 0} (f : X → List ℕ) (xs : List X) (i : ℕ) (d : X) (start before comma after : List ℕ) → i < length xs → before ≡ start ++ joined (map f (take i xs)) → comma ≡ before ++ comma_before i → after ≡ comma ++ f (get_or xs i d) → after ≡ start ++ joined (map f (take (i + 1) xs))
joined_step f xs i d start before comma after h so_far with_comma with_text =
    with_text ∙ ap (λ (x : List ℕ). x ++ f (get_or xs i d)) (with_comma ∙ ap (λ (x : List ℕ). x ++ comma_before i) so_far)
    ∙ append_assoc (start ++ joined (map f (take i xs))) (comma_before i) (f (get_or xs i d))
    ∙ append_assoc start (joined (map f (take i xs))) (comma_before i ++ f (get_or xs i d))
    ∙ ap (λ (x : List ℕ). start ++ x) (sym (joined_more f xs i d h))

-- all of them have been appended
pub all_printed : (ts : List TypeTree) (xs : List TypeHandle) (n : ℕ) (start after : List ℕ) → n ≡ length xs → after ≡ start ++ joined (map (λ (x : TypeHandle). type_text (type_at ts x)) (take n xs)) → after ≡ start ++ joined (type_texts (types_at ts xs))
all_printed ts xs n start after all printed =
    let whole : take n xs ≡ xs = ap (λ (k : ℕ). take k xs) all ∙ take-length xs in
    printed ∙ ap (λ (ys : List (List ℕ)). start ++ joined ys) (ap (map (λ (x : TypeHandle). type_text (type_at ts x))) whole ∙ sym (type_texts-map ts xs))

-- the pieces of a function type, one after another
pub func_printed : (r ps : List ℕ) (v : Bool) (o head result opened params end : List ℕ)
    → head ≡ o ++ codes "llvm.func <" → result ≡ head ++ r → opened ≡ result ++ codes " (" → params ≡ opened ++ ps
    → end ≡ params ++ codes ") variadic = " ++ truth_text v ++ codes ">"
    → end ≡ o ++ (codes "llvm.func <" ++ r ++ codes " (" ++ ps ++ codes ") variadic = " ++ truth_text v ++ codes ">")
func_printed r ps v o head result opened params end e1 e2 e3 e4 e5 = simp (e5, e4, e3, e2, e1, append_assoc)

-- ---- lines of structs

-- the line of one more type, where it is a struct with a name
pub lines_step : (ts : List TypeTree) (ks : List TypeKind) (i : ℕ) (k : TypeKind) (start before after : List ℕ) → slice_get ks i ≡ Some k → before ≡ start ++ flat_map struct_text (filter_map (struct_of ts) (take i ks))
    → after ≡ before ++ option_map_or struct_text (struct_of ts k) [] → after ≡ start ++ flat_map struct_text (filter_map (struct_of ts) (take (i + 1) ks))
lines_step ts ks i k start before after at so_far line =
    line ∙ ap (λ (x : List ℕ). x ++ option_map_or struct_text (struct_of ts k) []) so_far
    ∙ append_assoc start (flat_map struct_text (filter_map (struct_of ts) (take i ks))) (option_map_or struct_text (struct_of ts k) [])
    ∙ ap (λ (x : List ℕ). start ++ x) (sym (more ∙ ap (λ (x : List ℕ). flat_map struct_text (filter_map (struct_of ts) (take i ks)) ++ x) (last (struct_of ts k))))
  where
    last : (s : Option NamedStruct) → flat_map struct_text (cons_option s []) ≡ option_map_or struct_text s []
    last None = refl
    last (Some s) = append-nil (struct_text s)

    more : flat_map struct_text (filter_map (struct_of ts) (take (i + 1) ks)) ≡ flat_map struct_text (filter_map (struct_of ts) (take i ks)) ++ flat_map struct_text (cons_option (struct_of ts k) [])
    more =
        ap (λ (xs : List TypeKind). flat_map struct_text (filter_map (struct_of ts) xs)) (take_next ks i k at)
        ∙ ap (flat_map struct_text) (filter_map-append (struct_of ts) (take i ks) (k ∷ []))
        ∙ flat_map-append struct_text (filter_map (struct_of ts) (take i ks)) (cons_option (struct_of ts k) [])

-- all of them have been appended
pub lines_all : (ks : List TypeKind) (n : ℕ) (start after : List ℕ) → n ≡ length ks → after ≡ start ++ flat_map struct_text (filter_map (struct_of (type_trees ks)) (take n ks)) → after ≡ start ++ flat_map struct_text (structs_of ks)
lines_all ks n start after all printed =
    printed ∙ ap (λ (xs : List TypeKind). start ++ flat_map struct_text (filter_map (struct_of (type_trees ks)) xs)) (ap (λ (k : ℕ). take k ks) all ∙ take-length ks)

-- the pieces of a line, one after another
pub line_printed : {E : Type 0} (r : Result (Unit {0}) E) (s : NamedStruct) (name o head named equal body end : List ℕ) → name ≡ s.name
    → head ≡ o ++ codes "  llvm.struct @" → named ≡ head ++ name → equal ≡ named ++ codes " = " → body ≡ equal ++ body_text s.body → end ≡ (if is_ok r then body ++ codes "\n" else body)
    → OnOk r (end ≡ o ++ struct_text s)
line_printed (Ok done) s name o head named equal body end e0 e1 e2 e3 e4 e5 = simp (e5, e4, e3, e2, e1, e0, append_assoc)
line_printed (Err fault) s name o head named equal body end e0 e1 e2 e3 e4 e5 = tt

-- the fields of a struct are numbers of a store where they are earlier than the struct
pub body_below : (n m : ℕ) (k : TypeKind) (name : List ℕ) (body : Option StructFields) → k ≡ Named name body → n < m → HasPartsBelow n k → IfSome body (λ (b : StructFields). AllBelow m b.types)
body_below n m k name None is lt h = tt
body_below n m k name (Some b) is lt h = AllBelow-more n m b.types (omega arith) (subst (HasPartsBelow n) is h)
