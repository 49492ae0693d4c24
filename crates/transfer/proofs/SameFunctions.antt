-- A function that an export made of what an import made has the code of the source.
use Rattle.std.proofs.Common.{ℕ, ◌≡◌, sym, ◌∙◌, ap, true, List, length}
use Rattle.llvm_core.specs.Data as L
use Rattle.llvm_core.specs.Data.{ModuleData}
use Rattle.llvm_core.specs.Form.{IsFormFunction}
use Rattle.dialect_types.specs.Legalised.{Named}
use Rattle.dialect_core.specs.Data as D
use Rattle.meaning.specs.Terms.{Match}
use Rattle.meaning.specs.Setting.{Setting}
use Rattle.meaning.specs.Code.{FunctionSymbol, External, SameNamed, SameBody}
use Rattle.meaning.specs.Examples.{same_places}
use Rattle.meaning.specs.Llvm as Llvm
use Rattle.meaning.specs.Dialect as Dialect
use Rattle.meaning.proofs.Naming.{items_same}
use Rattle.meaning.proofs.WovenLaws.{woven_first}
use Rattle.meaning.proofs.EntryLaws.{some_blocks, both}
use Rattle.meaning.specs.Renamed.{renamed_function}
use Rattle.from_llvm_ir.specs.declared.matching.FunctionBlocks.{FunctionBlocks}
use Rattle.from_llvm_ir.specs.Match.{place_at}
use Rattle.from_llvm_ir.specs.Imported.{ImportedFunction}
use Rattle.from_llvm_ir.proofs.CodeLaws.{as_many, placed, one_to_one, kept_as, has, symbol_named, type_named, imported_body}
use Rattle.to_llvm_ir.specs.Exported.{ExportedFunction}
use Rattle.to_llvm_ir.proofs.CodeLaws.{named_count}

module _ (match : Match) (d : ModuleData) (given : List Named) (f : L.Function) (x : FunctionBlocks) (g : D.Func) (here : (b : ℕ) → match.block f.name b ≡ place_at b x)
    (form : IsFormFunction f) (h : ImportedFunction d given (renamed_function match.struct f) x g) where
  -- whatever the source, the dialect module and the module back tell
  module _ (f' : L.Function) (k : ExportedFunction g f') (source made back : Setting) where
    back_blocks : length f'.blocks ≡ length f.blocks
    back_blocks = named_count g f' k ∙ as_many match d given f x g here form h

    pub form_back : IsFormFunction f'
    form_back = k.form h.targets

    has_back : Llvm.has_blocks f' ≡ true
    has_back = some_blocks f'.blocks form_back.body

    -- the trace of the function back is that of the dialect's
    trace_back : (cs : List ℕ) → (Llvm.body back f').trace cs ≡ (Dialect.body made g).trace cs
    trace_back cs = sym (items_same f'.name ((Llvm.body back f').trace cs)) ∙ woven_first same_places back f' made g (k.shape back made) (k.sets h.first.others back made) cs

    body_back : SameBody match f.name (Llvm.body source f) (Llvm.body back f')
    body_back = record {
      blocks = one_to_one x (length f.blocks) (length f'.blocks) (match.block f.name) (placed match d given f x g here form h) here back_blocks;
      traces = λ cs. (imported_body match d given f x g here form h source made).traces cs ∙ sym (trace_back cs);
    }

    pub entry_back : SameNamed match (Llvm.entry source f) (Llvm.entry back f')
    entry_back = record {
      name = sym (kept_as given d (renamed_function match.struct f) x g h) ∙ sym k.name;
      entry = record {
        symbol =
            symbol_named match f.type f'.type f.space (Llvm.has_blocks f) (Llvm.has_blocks f') (type_named match d given f x g here form h ∙ sym k.type) form.space (has match d given f x g here form h ∙ sym has_back)
            ∙ ap (λ (s : ℕ). FunctionSymbol f'.type External s (Llvm.has_blocks f')) (sym form_back.space);
        body = both match f.name (Llvm.has_blocks f) (Llvm.has_blocks f') (Llvm.body source f) (Llvm.body back f') (has match d given f x g here form h) has_back body_back;
      };
    }
