-- The printed text of reports and of a run's totals (this project's own texts; the kinds of errors are those of Clang's manual,
-- 'RealtimeSanitizer').
use Rattle.std.specs.Prelude.{ℕ, ◌+◌, ◌-◌, List, [], ◌∷◌, ◌++◌, reverse, codes, decimal, slice_get}
use Rattle.std.specs.List.{concat, flat_map}
use Rattle.std.specs.Option.{option_map_or}
use Rattle.c_text.specs.Place.{LineColumn, line_column}
use Rattle.core_unit.specs.declared.tables.UnitParts.{UnitParts}
use Rattle.ctx_set.specs.declared.steps.StackStep.{StackStep}
use Rattle.rt_ctx.specs.Places.{name_of, kind_of}
use Rattle.rt_ctx.specs.declared.answers.Kind.{Kind}
use Rattle.rt_ctx.specs.declared.answers.Kind.TheVariants.{UnsafeLibraryCall, BlockingCall}
use Rattle.reports.specs.declared.stacks.StackCount.{StackCount}

-- the place of a call, by the number of its site, which counts from 1
abbrev pub place_of : UnitParts → ℕ → ℕ
place_of unit site = option_map_or (λ info. info.place) (slice_get unit.sites (site - 1)) 0

abbrev pub kind_name : Kind → List ℕ
kind_name UnsafeLibraryCall = codes "unsafe-library-call"
kind_name BlockingCall = codes "blocking-call"

-- the first two lines of a report: its kind, the reached function, and how many reports had this stack; and then the
-- reached function as the innermost of the stack
unfoldable pub head_lines : List ℕ → List ℕ → List ℕ → List ℕ
head_lines kind name count =
    concat
    (codes "error: " ∷ kind ∷ codes ": '" ∷ name ∷ codes "' called in a real-time context, count " ∷ count ∷ codes "\n"
    ∷ codes "  #0 " ∷ name ∷ codes "\n" ∷ [])

-- the line of a function further down, with the place of the call in it
unfoldable pub caller_line : List ℕ → List ℕ → List ℕ → List ℕ → List ℕ
caller_line index name line column =
    concat (codes "  #" ∷ index ∷ codes " " ∷ name ∷ codes " " ∷ line ∷ codes ":" ∷ column ∷ codes "\n" ∷ [])

abbrev pub caller_at : ℕ → List ℕ → LineColumn → List ℕ
caller_at index name at = caller_line (decimal index) name (decimal at.line) (decimal at.column)

-- the lines of the functions below one that was entered from this site, innermost first
abbrev pub callers_text : List ℕ → UnitParts → (index site : ℕ) → List StackStep → List ℕ
callers_text source unit index site [] = []
callers_text source unit index site (step ∷ steps) =
    caller_at index (name_of unit step.target) (line_column source (place_of unit site))
    ++ callers_text source unit (index + 1) step.site steps

-- the report with so many of a stack whose innermost step stands first
abbrev pub stack_text : List ℕ → UnitParts → ℕ → List StackStep → List ℕ
stack_text source unit count [] = []
stack_text source unit count (step ∷ steps) =
    head_lines (kind_name (kind_of step.target)) (name_of unit step.target) (decimal count)
    ++ callers_text source unit 1 step.site steps

abbrev pub report_text : List ℕ → UnitParts → StackCount → List ℕ
report_text source unit c = stack_text source unit c.count (reverse c.stack)

-- the reports of these stacks, one after another
abbrev pub reports_text : List ℕ → UnitParts → List StackCount → List ℕ
reports_text source unit stacks = flat_map (report_text source unit) stacks

-- the three lines of totals
unfoldable pub totals_lines : List ℕ → List ℕ → List ℕ → List ℕ
totals_lines total unique suppressed =
    concat
    (codes "total reports: " ∷ total ∷ codes "\nunique reports: " ∷ unique ∷ codes "\nsuppressed reports: " ∷ suppressed
    ∷ codes "\n" ∷ [])

abbrev pub stats_text : (total unique suppressed : ℕ) → List ℕ
stats_text total unique suppressed = totals_lines (decimal total) (decimal unique) (decimal suppressed)
