-- Structs that go behind those of a module one after another.
use Rattle.std.proofs.Common.{◌≡◌, ◌≤◌, ℕ, suc, List, [], ◌∷◌, ◌++◌, Option, Some, None, length, slice_get, map, drop, ap, sym, ◌∙◌, refl}
use Rattle.std.specs.Option.{option_map}
use Rattle.std.proofs.lemmas.List.{append-nil, append_assoc, drop_all}
use Rattle.llvm_core.specs.declared.structs.StructFields.{StructFields}
use Rattle.llvm_core.specs.Module.{Module}
use Rattle.llvm_core.specs.Sound.{IsModule}
use Rattle.llvm_core.specs.Data as D
use Rattle.llvm_core.specs.Data.{Struct, data_of, trees_of, fields_of, with_struct}
use Rattle.ll_lines.specs.declared.lines.StructLine.{StructLine}
use Rattle.ll_lines.specs.Views.{struct_view, text_of}
use Rattle.ll_literals.specs.Chain.{◌>>=◌}
use Rattle.ll_literals.specs.Names.{symbol_name}
use Rattle.ll_bodies.specs.Meaning.{all_of, struct_data}
use Rattle.ll_bodies.specs.StructViews.{AddsStruct, AddsStructs}
use Rattle.ll_bodies.proofs.BlockLaws.{drop_at}
use Rattle.ll_bodies.proofs.ListLaws.{then_some}

-- ---- one struct

-- the struct that is said, under that name
abbrev pub struct_with : Module → (name : List ℕ) → StructLine → Struct
struct_with m name x = record { name = name; body = option_map (fields_of (trees_of m).types) x.body }

module _ (bytes : List ℕ) (old : Module) (x : StructLine) where
  pub struct_said : (name : List ℕ) → symbol_name (text_of bytes x.name) ≡ Some name → struct_data (struct_view bytes (trees_of old) x) ≡ Some (struct_with old name x)
  struct_said name h = ap (λ o. o >>= λ n. Some (struct_with old n x)) h

  pub struct_unsaid : symbol_name (text_of bytes x.name) ≡ None → struct_data (struct_view bytes (trees_of old) x) ≡ None
  struct_unsaid h = ap (λ o. o >>= λ n. Some (struct_with old n x)) h

  pub struct_added : (new : Module) (name : List ℕ) (body : Option StructFields) → symbol_name (text_of bytes x.name) ≡ Some name → body ≡ x.body
      → new ≡ record old { structs = old.structs ++ (record { name = name; body = body }) ∷ [] }
      → data_of new ≡ with_struct (data_of old) (record { name = name; body = option_map (fields_of (trees_of old).types) body })
      → IsModule new → AddsStruct bytes x old new
  struct_added new name body called same is given sound = record {
    made = struct_with old name x;
    is = struct_said name called;
    rest = is ∙ ap (λ (m : Module). record old { structs = m.structs }) (sym is);
    given = given ∙ ap (λ (b : Option StructFields). with_struct (data_of old) (record { name = name; body = option_map (fields_of (trees_of old).types) b })) same;
    sound = sound;
  }

-- ---- one after another

whole : {B : Type 0} (r : Option (List B)) → r ≡ (r >>= λ ys. Some ([] ++ ys))
whole None = refl
whole (Some ys) = refl

module _ (bytes : List ℕ) (old : Module) (xs : List StructLine) where
  -- what is said from a place on means
  abbrev pub left : ℕ → Option (List Struct)
  left at = all_of struct_data (map (struct_view bytes (trees_of old)) (drop at xs))

  -- those before a place have been added
  pub record Added (at : ℕ) (now : Module) : Type 0 where
    pub made : List Struct
    pub is : left 0 ≡ (left at >>= λ ys. Some (made ++ ys))
    pub rest : now ≡ record old { structs = now.structs }
    pub given : data_of now ≡ record (data_of old) { structs = (data_of old).structs ++ made }
    pub sound : IsModule now

  pub added_none : IsModule old → Added 0 old
  added_none s = record {
    made = [];
    is = whole (left 0);
    rest = refl;
    given = ap (λ (ss : List Struct). record (data_of old) { structs = ss }) (sym (append-nil (data_of old).structs));
    sound = s;
  }

  module _ (at : ℕ) (now : Module) (x : StructLine) (here : slice_get xs at ≡ Some x) (a : Added at now) where
    -- the next struct, as the module now says it
    next_is : left at ≡ (struct_data (struct_view bytes (trees_of now) x) >>= λ s. left (suc at) >>= λ ss. Some (s ∷ ss))
    next_is =
        ap (λ (ys : List StructLine). all_of struct_data (map (struct_view bytes (trees_of old)) ys)) (drop_at xs at x here)
        ∙ ap (λ (m : Module). struct_data (struct_view bytes (trees_of m) x) >>= λ s. left (suc at) >>= λ ss. Some (s ∷ ss)) (sym (ap (λ (m : Module). record m { structs = old.structs }) a.rest))

    pub added_refused : struct_data (struct_view bytes (trees_of now) x) ≡ None → left 0 ≡ None
    added_refused h = a.is ∙ ap (λ o. o >>= λ ys. Some (a.made ++ ys)) (next_is ∙ ap (λ o. o >>= λ s. left (suc at) >>= λ ss. Some (s ∷ ss)) h)

    pub added_more : (new : Module) (next : ℕ) → next ≡ suc at → AddsStruct bytes x now new → Added next new
    added_more new next e f = rw e (record {
      made = a.made ++ f.made ∷ [];
      is = a.is ∙ ap (λ o. o >>= λ ys. Some (a.made ++ ys)) (next_is ∙ ap (λ o. o >>= λ s. left (suc at) >>= λ ss. Some (s ∷ ss)) f.is) ∙ then_some (left (suc at)) f.made a.made;
      rest = f.rest ∙ ap (λ (m : Module). record m { structs = new.structs }) a.rest;
      given = f.given ∙ ap (λ (z : D.ModuleData). with_struct z f.made) a.given ∙ ap (λ (ss : List Struct). record (data_of old) { structs = ss }) (append_assoc (data_of old).structs a.made (f.made ∷ []));
      sound = f.sound;
    })

  pub added_all : (at : ℕ) (now : Module) → length xs ≤ at → Added at now → AddsStructs bytes xs old now
  added_all at now past a = record {
    made = a.made;
    is = a.is ∙ ap (λ (ys : List StructLine). all_of struct_data (map (struct_view bytes (trees_of old)) ys) >>= λ zs. Some (a.made ++ zs)) (drop_all at xs past) ∙ ap (λ zs. Some zs) (append-nil a.made);
    rest = a.rest;
    given = a.given;
    sound = a.sound;
  }
