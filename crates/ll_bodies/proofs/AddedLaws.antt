-- Constants that go behind those of a module one after another.
use Rattle.std.proofs.Common.{◌≡◌, ◌<◌, ℕ, suc, List, [], ◌∷◌, ◌++◌, Option, Some, None, length, slice_get, refl, ap, sym, ◌∙◌, subst}
use Rattle.std.specs.Prelude.{IfSome}
use Rattle.std.specs.Option.{option_map}
use Rattle.std.proofs.lemmas.List.{append-nil, append_assoc}
use Rattle.llvm_core.specs.declared.numbers.LLVMConst.{LLVMConst}
use Rattle.llvm_core.specs.declared.consts.LLVMConstKind.{LLVMConstKind}
use Rattle.llvm_core.specs.Module.{Module}
use Rattle.llvm_core.specs.Sound.{IsModule}
use Rattle.llvm_core.specs.Data as D
use Rattle.llvm_core.specs.Data.{const_at, trees_of}
use Rattle.ll_lines.specs.declared.lines.ConstLine.{ConstLine}
use Rattle.ll_lines.specs.Views.{IsTableIn}
use Rattle.ll_bodies.specs.AddingViews.{Keeps}
use Rattle.ll_bodies.specs.TableViews.{AreMeant, AddsConsts, line_meant}
use Rattle.ll_bodies.proofs.TableLaws.{meant_there, one_meant}
use Rattle.ll_bodies.proofs.ViewLaws.{place_same, meant_kept, table_kept}

-- constants that are added keep what is there
pub keeps_consts : (m n : Module) → AddsConsts m n → Keeps m n
keeps_consts m n g = record {
  more = [];
  types = ap (λ (k : Module). k.types) g.rest ∙ sym (append-nil m.types);
  more_consts = g.more;
  consts = g.consts;
  structs = ap (λ (d : D.ModuleData). d.structs) g.same;
}

pub adds_none : (m : Module) → AddsConsts m m
adds_none m = record { more = []; consts = sym (append-nil m.consts); rest = refl; same = refl }

pub adds_twice : (a b c : Module) → AddsConsts a b → AddsConsts b c → AddsConsts a c
adds_twice a b c g h = record {
  more = g.more ++ h.more;
  consts = h.consts ∙ ap (λ (ks : List LLVMConstKind). ks ++ h.more) g.consts ∙ append_assoc a.consts g.more h.more;
  rest = h.rest ∙ ap (λ (m : Module). record m { consts = c.consts }) g.rest;
  same = h.same ∙ g.same;
}

-- one more line has its number
module _ (bytes : List ℕ) (lines : List ConstLine) (m n : Module) (g : AddsConsts m n) (s : IsModule m) (inside : IsTableIn m lines) (at : ℕ) (numbers : List (Option LLVMConst)) (a : AreMeant bytes m lines at numbers)
    (l : ConstLine) (here : slice_get lines at ≡ Some l) where
  line_still : line_meant bytes m lines l ≡ line_meant bytes n lines l
  line_still =
      sym (meant_there bytes m lines at l inside here) ∙ sym (place_same bytes m n (keeps_consts m n g) s lines inside at)
      ∙ meant_there bytes n lines at l (table_kept m n (keeps_consts m n g) lines inside) here

  pub number_more : (c : Option LLVMConst) (next : ℕ) → next ≡ suc at → option_map (const_at (trees_of n).consts) c ≡ line_meant bytes m lines l → IfSome c (λ (d : LLVMConst). d.0 < length n.consts)
      → AreMeant bytes n lines next (numbers ++ c ∷ [])
  number_more c next e is there =
      one_meant bytes n lines at numbers (meant_kept bytes m n (keeps_consts m n g) s lines inside at numbers a) l c next e (table_kept m n (keeps_consts m n g) lines inside) here (is ∙ line_still) there
