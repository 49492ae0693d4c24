-- Functions that go behind those of a module one after another.
use Rattle.std.proofs.Common.{◌≡◌, ◌+◌, ℕ, suc, List, [], ◌∷◌, ◌++◌, Option, Some, None, length, length-append, slice_get, map, drop, ap, sym, ◌∙◌, refl, arith}
use Rattle.std.proofs.lemmas.List.{append-nil, append_assoc}
use Rattle.llvm_core.specs.declared.types.LLVMTypeKind.{LLVMTypeKind}
use Rattle.llvm_core.specs.declared.consts.LLVMConstKind.{LLVMConstKind}
use Rattle.llvm_core.specs.Module.{Module}
use Rattle.llvm_core.specs.Sound.{IsModule}
use Rattle.llvm_core.specs.Data as D
use Rattle.llvm_core.specs.Data.{data_of, structs_of}
use Rattle.ll_lines.specs.declared.lines.Function.{Function}
use Rattle.ll_lines.specs.Lines as L
use Rattle.ll_lines.specs.declared.lines.ConstLine.{ConstLine}
use Rattle.ll_lines.specs.Views.{IsTableIn, IsFunctionIn}
use Rattle.ll_literals.specs.Chain.{◌>>=◌}
use Rattle.ll_bodies.specs.Meaning.{function_data, functions_data, count_insts}
use Rattle.ll_bodies.specs.AddingViews.{Keeps, AddsTypes, AddsFunction, function_over, data_over}
use Rattle.ll_bodies.proofs.BlockLaws.{drop_at}
use Rattle.ll_bodies.proofs.JoinLaws.{function_total, keeps_types}
use Rattle.ll_bodies.proofs.ListLaws.{then_some}
use Rattle.ll_bodies.proofs.ViewLaws.{function_same}

pub keeps_twice : (a b c : Module) → Keeps a b → Keeps b c → Keeps a c
keeps_twice a b c g h = record {
  more = g.more ++ h.more;
  types = h.types ∙ ap (λ (ts : List LLVMTypeKind). ts ++ h.more) g.types ∙ append_assoc a.types g.more h.more;
  more_consts = g.more_consts ++ h.more_consts;
  consts = h.consts ∙ ap (λ (cs : List LLVMConstKind). cs ++ h.more_consts) g.consts ∙ append_assoc a.consts g.more_consts h.more_consts;
  structs = h.structs ∙ g.structs;
}

whole : {B : Type 0} (r : Option (List B)) → r ≡ (r >>= λ ys. Some ([] ++ ys))
whole None = refl
whole (Some ys) = refl

module _ (bytes : List ℕ) (lines : List ConstLine) (old : Module) (xs : List Function) where
  -- what is said from a place on, as the module before says it
  abbrev pub left : ℕ → List L.Function
  left at = map (function_over bytes lines old) (drop at xs)

  -- what functions mean behind those of a module
  abbrev pub meant : Module → List L.Function → Option (List D.Function)
  meant m ys = functions_data (structs_of m) (length m.functions) (length m.blocks) (length m.insts) ys

  -- those before a place have been added
  pub record Added (at : ℕ) (now : Module) : Type 0 where
    pub made : List D.Function
    pub is : meant old (map (function_over bytes lines old) xs) ≡ (meant now (left at) >>= λ ys. Some (made ++ ys))
    pub given : data_of now ≡ record (data_of old) { functions = (data_of old).functions ++ made }
    pub keeps : Keeps old now
    pub sound : IsModule now

  -- types are added before the first
  pub added_none : (now : Module) → AddsTypes old now → IsModule now → Added 0 now
  added_none now g s = record {
    made = [];
    is =
        ap (λ (m : Module). functions_data (structs_of old) (length m.functions) (length m.blocks) (length m.insts) (map (function_over bytes lines old) xs)) (sym (ap (λ (m : Module). record m { types = old.types }) g.rest))
        ∙ ap (λ (ss : List D.Struct). functions_data ss (length now.functions) (length now.blocks) (length now.insts) (map (function_over bytes lines old) xs)) (sym (ap (λ (d : D.ModuleData). d.structs) g.same))
        ∙ whole (meant now (left 0));
    given = g.same ∙ ap (λ (fs : List D.Function). record (data_of old) { functions = fs }) (sym (append-nil (data_of old).functions));
    keeps = keeps_types old now g;
    sound = s;
  }

  module _ (s : IsModule old) (at : ℕ) (now : Module) (x : Function) (here : slice_get xs at ≡ Some x) (inside : IsTableIn old lines) (there : IsFunctionIn old (length lines) x) (a : Added at now) where
    -- the next function, as the module now says it
    next_is : meant now (left at) ≡ (data_over bytes lines now (length now.functions) (length now.blocks) (length now.insts) x >>= λ d. functions_data (structs_of now) (suc (length now.functions)) (length now.blocks + length d.blocks) (length now.insts + count_insts d.blocks) (left (suc at)) >>= λ ds. Some (d ∷ ds))
    next_is =
        ap (λ (ys : List Function). meant now (map (function_over bytes lines old) ys)) (drop_at xs at x here)
        ∙ ap (λ (y : L.Function). function_data (structs_of now) (length now.functions) (length now.blocks) (length now.insts) y >>= λ d. functions_data (structs_of now) (suc (length now.functions)) (length now.blocks + length d.blocks) (length now.insts + count_insts d.blocks) (left (suc at)) >>= λ ds. Some (d ∷ ds))
        (sym (function_same bytes old now a.keeps s lines inside (length lines) x there))

    pub added_refused : data_over bytes lines now (length now.functions) (length now.blocks) (length now.insts) x ≡ None → meant old (map (function_over bytes lines old) xs) ≡ None
    added_refused h =
        a.is ∙ ap (λ o. o >>= λ ys. Some (a.made ++ ys)) (next_is ∙ ap (λ o. o >>= λ d. functions_data (structs_of now) (suc (length now.functions)) (length now.blocks + length d.blocks) (length now.insts + count_insts d.blocks) (left (suc at)) >>= λ ds. Some (d ∷ ds)) h)

    pub added_more : (new : Module) (next : ℕ) → next ≡ suc at → AddsFunction bytes lines x now new → Added next new
    added_more new next e f =
        let d = f.function in
        let count : length new.functions ≡ suc (length now.functions) = omega (arith, function_total new, function_total now, length-append (data_of now).functions (d ∷ []), ap (λ (z : D.ModuleData). length z.functions) f.given) in
        let rest : functions_data (structs_of now) (suc (length now.functions)) (length now.blocks + length d.blocks) (length now.insts + count_insts d.blocks) (left (suc at)) ≡ meant new (left (suc at))
        = ap (λ (k : ℕ). functions_data (structs_of now) k (length now.blocks + length d.blocks) (length now.insts + count_insts d.blocks) (left (suc at))) (sym count)
        ∙ ap (λ (k : ℕ). functions_data (structs_of now) (length new.functions) k (length now.insts + count_insts d.blocks) (left (suc at))) (sym f.blocks)
        ∙ ap (λ (k : ℕ). functions_data (structs_of now) (length new.functions) (length new.blocks) k (left (suc at))) (sym f.insts)
        ∙ ap (λ (ss : List D.Struct). functions_data ss (length new.functions) (length new.blocks) (length new.insts) (left (suc at))) (sym f.keeps.structs) in
        rw e (record {
          made = a.made ++ d ∷ [];
          is =
              a.is ∙ ap (λ o. o >>= λ ys. Some (a.made ++ ys)) (next_is ∙ ap (λ o. o >>= λ d. functions_data (structs_of now) (suc (length now.functions)) (length now.blocks + length d.blocks) (length now.insts + count_insts d.blocks) (left (suc at)) >>= λ ds. Some (d ∷ ds)) f.is)
              ∙ ap (λ o. (o >>= λ ds. Some (d ∷ ds)) >>= λ ys. Some (a.made ++ ys)) rest
              ∙ then_some (meant new (left (suc at))) d a.made;
          given = f.given ∙ ap (λ (z : D.ModuleData). D.with_function z d) a.given ∙ ap (λ (fs : List D.Function). record (data_of old) { functions = fs }) (append_assoc (data_of old).functions a.made (d ∷ []));
          keeps = keeps_twice old now new a.keeps f.keeps;
          sound = f.sound;
        })
