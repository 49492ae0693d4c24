-- Lines that a scope could be made of: where a name is written of a result, there is one, so the operands fit.
use Rattle.std.proofs.Common.{◌≡◌, ◌+◌, ℕ, suc, Bool, true, false, if◌then◌else◌, List, [], ◌∷◌, Option, Some, None, length, slice_get, map, All, refl, sym, ap, ◌∙◌}
use Rattle.std.specs.Prelude.{IfSome}
use Rattle.std.proofs.lemmas.List.Elements.{All-nil, All-cons}
use Rattle.kinds.specs.Types.{TypeTree}
use Rattle.kinds.specs.Table.{rule_of}
use Rattle.kinds.specs.Typing.{fits_trees, typed, given}
use Rattle.kinds.specs.declared.op.Op.{Op}
use Rattle.ll_lines.specs.declared.names.Name.{Name}
use Rattle.ll_lines.specs.declared.lines.RowLine.{RowLine}
use Rattle.ll_lines.specs.declared.lines.Line as code_line
use Rattle.ll_lines.specs.declared.lines.Inst as code_inst
use Rattle.ll_lines.specs.declared.lines.Inst.TheVariants as code_insts
use Rattle.ll_lines.specs.declared.lines.Part.{Part}
use Rattle.ll_lines.specs.declared.lines.Part.TheVariants.{Label, Does}
use Rattle.ll_lines.specs.declared.lines.Param.{Param}
use Rattle.ll_lines.specs.Views.{text_of}
use Rattle.ll_literals.specs.Chain.{◌>>=◌}
use Rattle.ll_bodies.specs.declared.blocks.SaidBlock.{SaidBlock}
use Rattle.ll_bodies.specs.declared.results.Source.{Source}
use Rattle.ll_bodies.specs.Scopes.{Scope, BlockLocal, label_key, define_written, empty_scope}
use Rattle.ll_bodies.specs.Meaning.{result_type, result_scope, lines_scope, blocks_scope, params_scope}
use Rattle.ll_bodies.specs.SourceViews.{table_in, source_trees, inst_in, row_in, name_in, lines_in, block_in, param_in, line_scope, IsFitting, IsFittingRow, FitsIfNamed, IsSettled, HasSettled}
use Rattle.ll_bodies.specs.FunctionViews.{function_scope}
use Rattle.ll_bodies.proofs.InstructionLaws.{said_fits}
use Rattle.ll_bodies.proofs.TypeLaws.{viewed_types}

-- a row whose operands do not fit has no result
untyped : (op : Op) (w : Option TypeTree) (ts : List TypeTree) → fits_trees op w ts ≡ false → typed op w ts ≡ None
untyped op w ts e = ap (λ (fit : Bool). if fit then given (rule_of op).gives w (slice_get ts 0) (slice_get ts 1) else None) e

module _ (source : Source) (s : Scope) where
  fits_by_result : (r : RowLine) → ¬ (result_type (row_in source r) ≡ None) → IsFittingRow (source_trees source) r
  fits_by_result r some = by (said_fits source s r) refl
    where
      by : (fit : Bool) → said_fits source s r ≡ fit → IsFittingRow (source_trees source) r
      by true e = e
      by false e = absurd (some (viewed_types source.bytes.now (source_trees source) (table_in source) r ∙ untyped r.op _ _ e))

  line_settled : (n : ℕ) (l : code_line.Line) (u : Scope) → line_scope source n l s ≡ Some u → FitsIfNamed (source_trees source) l
  line_settled n l u = by l.inst l.result
    where
      by : (i : code_inst.Inst) (w : Option Name) → result_scope s n (result_type (inst_in source i)) (name_in source w) ≡ Some u → IfSome w (λ (m : Name). IsFitting (source_trees source) i)
      by i None e = tt
      by (code_insts.Phi ty es) (Some m) e = tt
      by (code_insts.Row r) (Some m) e =
          fits_by_result r (λ none. let bad : None ≡ Some u = sym (ap (λ o. result_scope s n o (Some (text_of source.bytes.now m))) none) ∙ e in cc)

module _ (source : Source) where
  parts_settled : (ps : List Part) (s : Scope) (n : ℕ) (u : Scope) → lines_scope s n (lines_in source ps) ≡ Some u → All (IsSettled (source_trees source)) ps
  parts_settled [] s n u e = All-nil (IsSettled (source_trees source))
  parts_settled (Label m ∷ ps) s n u e = All-cons (IsSettled (source_trees source)) (Label m) ps tt (parts_settled ps s n u e)
  parts_settled (Does l ∷ ps) s n u e = by (line_scope source n l s) refl (λ v. parts_settled ps v (suc n) u) e
    where
      by : (o : Option Scope) → line_scope source n l s ≡ o → ((v : Scope) → lines_scope v (suc n) (lines_in source ps) ≡ Some u → All (IsSettled (source_trees source)) ps)
          → (o >>= λ v. lines_scope v (suc n) (lines_in source ps)) ≡ Some u → All (IsSettled (source_trees source)) (Does l ∷ ps)
      by None f rest e = cc
      by (Some v) f rest e = All-cons (IsSettled (source_trees source)) (Does l) ps (line_settled source s n l v f) (rest v e)

  in_blocks : (xs : List SaidBlock) (s : Scope) (b n : ℕ) (u : Scope) → blocks_scope s b n (map (block_in source) xs) ≡ Some u → All (HasSettled (source_trees source)) xs
  in_blocks [] s b n u e = All-nil (HasSettled (source_trees source))
  in_blocks (x ∷ xs) s b n u e = by (define_written s (BlockLocal b) label_key (block_in source x).label) (λ v. in_blocks xs v (suc b) (n + length (block_in source x).lines) u) e
    where
      left : Scope → Option Scope
      left v = blocks_scope v (suc b) (n + length (block_in source x).lines) (map (block_in source) xs)

      by_lines : (v : Scope) (o : Option Scope) → lines_scope v n (block_in source x).lines ≡ o → ((w : Scope) → left w ≡ Some u → All (HasSettled (source_trees source)) xs)
          → (o >>= left) ≡ Some u → All (HasSettled (source_trees source)) (x ∷ xs)
      by_lines v None f rest e = cc
      by_lines v (Some w) f rest e = All-cons (HasSettled (source_trees source)) x xs (parts_settled x.lines.now v n w f) (rest w e)

      by : (o : Option Scope) → ((w : Scope) → left w ≡ Some u → All (HasSettled (source_trees source)) xs)
          → (o >>= λ v. lines_scope v n (block_in source x).lines >>= left) ≡ Some u → All (HasSettled (source_trees source)) (x ∷ xs)
      by None rest e = cc
      by (Some v) rest e = by_lines v (lines_scope v n (block_in source x).lines) refl rest e

  -- where a function has a scope
  pub settled : (f b n : ℕ) (ps : List Param) (xs : List SaidBlock) (u : Scope) → function_scope source f b n ps xs ≡ Some u → All (HasSettled (source_trees source)) xs
  settled f b n ps xs u = by (params_scope empty_scope f 0 (map (param_in source) ps))
    where
      by : (o : Option Scope) → (o >>= λ v. blocks_scope v b n (map (block_in source) xs)) ≡ Some u → All (HasSettled (source_trees source)) xs
      by None e = cc
      by (Some v) e = in_blocks xs v b n u e
