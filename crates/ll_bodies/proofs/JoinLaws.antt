-- A function that is declared and gets its body, and functions one after another.
use Rattle.std.proofs.Common.{◌≡◌, ◌+◌, ℕ, suc, List, [], ◌∷◌, Some, None, length, length-append, map, refl, ap, sym, ◌∙◌, arith}
use Rattle.std.specs.List.{enumerate_from}
use Rattle.std.proofs.lemmas.List.{append-nil}
use Rattle.llvm_core.specs.declared.code.FunctionData.{FunctionData}
use Rattle.llvm_core.specs.declared.code.InstData.{InstData}
use Rattle.llvm_core.specs.declared.bodies.BodyBlock.{BodyBlock}
use Rattle.llvm_core.specs.Module.{Module}
use Rattle.llvm_core.specs.Sound.{IsModule}
use Rattle.llvm_core.specs.Bodies.{blocks_from, placed_from}
use Rattle.llvm_core.specs.Data as D
use Rattle.llvm_core.specs.Data.{Trees, data_of, trees_of, structs_of}
use Rattle.llvm_core.proofs.BodyTypes.{all_insts}
use Rattle.ll_lines.specs.declared.lines.Function.{Function}
use Rattle.ll_lines.specs.Lines as L
use Rattle.ll_lines.specs.declared.lines.ConstLine.{ConstLine}
use Rattle.ll_lines.specs.Views.{text_of, IsTableIn, IsFunctionIn}
use Rattle.ll_literals.specs.Names.{symbol_name}
use Rattle.ll_bodies.specs.Meaning.{function_data, count_insts}
use Rattle.ll_bodies.specs.AddingViews.{AddsTypes, GivesBody, Keeps, AddsFunction, function_with, function_over, data_over}
use Rattle.ll_bodies.specs.Bits.{KeepsVectors}
use Rattle.ll_bodies.proofs.BitsLaws.{vectors_same, vectors_twice}
use Rattle.ll_bodies.proofs.AddingLaws.{function_added}
use Rattle.ll_bodies.proofs.ViewLaws.{function_same}

-- ---- how many blocks and instructions the data of a body have

pub block_total : (t : Trees) (n i : ℕ) (body : List BodyBlock) → length (blocks_from t n i body) ≡ length body
block_total t n i [] = refl
block_total t n i (b ∷ bs) = ap suc (block_total t (n + 1) (i + length b.insts) bs)

placed_total : (t : Trees) (n : ℕ) (xs : List InstData) → length (placed_from t n xs) ≡ length xs
placed_total t n [] = refl
placed_total t n (x ∷ xs) = ap suc (placed_total t (n + 1) xs)

pub inst_total : (t : Trees) (n i : ℕ) (body : List BodyBlock) → count_insts (blocks_from t n i body) ≡ length (all_insts body)
inst_total t n i [] = refl
inst_total t n i (b ∷ bs) = omega (arith, placed_total t i b.insts, inst_total t (n + 1) (i + length b.insts) bs, length-append b.insts (all_insts bs))

functions_from : (h : ℕ × FunctionData → D.Function) (n : ℕ) (fs : List FunctionData) → length (map h (enumerate_from n fs)) ≡ length fs
functions_from h n [] = refl
functions_from h n (f ∷ fs) = ap suc (functions_from h (n + 1) fs)

-- the data have as many functions as the module
pub function_total : (m : Module) → length (data_of m).functions ≡ length m.functions
function_total m = functions_from (D.function_of (trees_of m) m.blocks m.insts) 0 m.functions

-- ---- one function

module _ (m a : Module) (g : AddsTypes m a) where
  pub keeps_types : Keeps m a
  keeps_types = record { more = g.more; types = g.types; more_consts = []; consts = ap (λ (k : Module). k.consts) g.rest ∙ sym (append-nil m.consts); structs = ap (λ (d : D.ModuleData). d.structs) g.same }

  pub keeps_declared : (d : Module) → d ≡ record a { functions = d.functions } → Keeps m d
  keeps_declared d rest = record {
    more = g.more;
    types = ap (λ (k : Module). k.types) rest ∙ g.types;
    more_consts = [];
    consts = ap (λ (k : Module). k.consts) rest ∙ ap (λ (k : Module). k.consts) g.rest ∙ sym (append-nil m.consts);
    structs = ap structs_of rest ∙ keeps_types.structs;
  }

  -- the data of a function do not change as types are added
  pub data_same : (bytes : List ℕ) (lines : List ConstLine) (x : Function) → IsModule m → IsTableIn m lines → IsFunctionIn m (length lines) x
      → data_over bytes lines a (length a.functions) (length a.blocks) (length a.insts) x ≡ data_over bytes lines m (length m.functions) (length m.blocks) (length m.insts) x
  data_same bytes lines x s inside h =
      ap (λ (v : L.Function). function_data (structs_of a) (length a.functions) (length a.blocks) (length a.insts) v) (function_same bytes m a keeps_types s lines inside (length lines) x h)
      ∙ ap (λ (ss : List D.Struct). function_data ss (length a.functions) (length a.blocks) (length a.insts) (function_over bytes lines m x)) keeps_types.structs
      ∙ ap (λ (k : Module). function_data (structs_of m) (length k.functions) (length k.blocks) (length k.insts) (function_over bytes lines m x)) g.rest

pub joined : (bytes : List ℕ) (lines : List ConstLine) (f : ℕ) (name : List ℕ) (x : Function) (m a d n : Module) → IsModule m → IsTableIn m lines → IsFunctionIn m (length lines) x → AddsTypes m a → KeepsVectors m a → f ≡ length a.functions → d ≡ record a { functions = d.functions }
    → symbol_name (text_of bytes x.name) ≡ Some name → data_of d ≡ D.with_function (data_of a) (function_with bytes (trees_of a) (length a.functions) name x [])
    → GivesBody bytes lines f x d n → IsModule n → AddsFunction bytes lines x m n
joined bytes lines f name x m a d n s inside h g v number rest called made b sound =
    let p = function_added bytes lines f name x a d n number rest called made b in
    record {
      function = function_with bytes (trees_of a) (length a.functions) name x b.blocks;
      is = sym (data_same m a g bytes lines x s inside h) ∙ p.0;
      given = p.1 ∙ ap (λ (z : D.ModuleData). D.with_function z (function_with bytes (trees_of a) (length a.functions) name x b.blocks)) g.same;
      keeps = record { more = g.more; types = b.types ∙ ap (λ (k : Module). k.types) rest ∙ g.types; more_consts = []; consts = b.consts ∙ ap (λ (k : Module). k.consts) rest ∙ ap (λ (k : Module). k.consts) g.rest ∙ sym (append-nil m.consts); structs = ap (λ (z : D.ModuleData). z.structs) p.1 ∙ ap (λ (z : D.ModuleData). z.structs) g.same };
      vectors = vectors_twice m a n v (vectors_same a n (b.types ∙ ap (λ (k : Module). k.types) rest));
      blocks = b.block_count ∙ ap (λ (k : Module). length k.blocks + length b.blocks) rest ∙ ap (λ (k : Module). length k.blocks + length b.blocks) g.rest;
      insts = b.inst_count ∙ ap (λ (k : Module). length k.insts + count_insts b.blocks) rest ∙ ap (λ (k : Module). length k.insts + count_insts b.blocks) g.rest;
      sound = sound;
    }

-- a function that has no data once it is declared had none before
pub unjoined : (bytes : List ℕ) (lines : List ConstLine) (f : ℕ) (x : Function) (m a d : Module) → IsModule m → IsTableIn m lines → IsFunctionIn m (length lines) x → AddsTypes m a → f ≡ length a.functions → d ≡ record a { functions = d.functions }
    → data_over bytes lines d f (length d.blocks) (length d.insts) x ≡ None
    → data_over bytes lines m (length m.functions) (length m.blocks) (length m.insts) x ≡ None
unjoined bytes lines f x m a d s inside h g number rest none =
    sym (data_same m a g bytes lines x s inside h)
    ∙ ap (λ (k : ℕ). data_over bytes lines a k (length a.blocks) (length a.insts) x) (sym number)
    ∙ ap (λ (k : Module). data_over bytes lines k f (length k.blocks) (length k.insts) x) (sym rest)
    ∙ none
