-- Specifiers: the rule as what reads one of them, and again what stands behind it.
use Rattle.std.proofs.Common.{◌≡◌, refl, ℕ, zero, max, ◌<◌, Bool, true, false, cond, not, ◌&&◌, List, [], ◌∷◌, ◌++◌, length, Option, Some, None, is_none, ap, ◌∙◌, sym, append_assoc, append-nil, arith}
use Rattle.grammar.specs.Parts.{Return}
use Rattle.grammar.specs.Parser.{Outcome, Got, Bad, after, deepen}
use Rattle.c_tree.specs.declared.words.Attr.{Attr}
use Rattle.c_tree.specs.declared.expressions.Spec.{Spec}
use Rattle.c_tree.specs.declared.expressions.Spec.TheVariants as spec
use Rattle.c_grammar.specs.declared.terminal.Terminal.TheVariants as k
use Rattle.c_grammar.specs.Lexemes.{Lexeme, is, place}
use Rattle.c_grammar.specs.declared.state.SpecifierContext.{SpecifierContext}
use Rattle.c_grammar.specs.Rules.{Scope, SpecsState, SpecsRead, Specs}
use Rattle.c_grammar.specs.Expressions.{Reading}
use Rattle.c_grammar.specs.Specifiers as grammar
use Rattle.c_grammar.specs.Specifiers.{more_specs, end_specs, is_spec_word, spec_of, after_terminal, after_type, is_barred, is_abstract, is_whole, next_context}
use Rattle.parse_input.specs.Input.{head, behind, sees}
use Rattle.parse_input.specs.Reads.{named, reads}
use Rattle.parse_input.proofs.Steps.{plain_rule, sees_less}
use Rattle.parse_specifiers.specs.Parts.{gnu_attribute, bracket_attribute}
use Rattle.parse_specifiers.specs.Specified.{tagged, tagged_read, structure_of, structure_read, enumeration_of, enumeration_read, goes, attributed, word_next, ended, bracket_read, next_read, behind_specs}
use Rattle.parse_specifiers.specs.declared.specifiers.Next.{Next}
use Rattle.parse_specifiers.specs.declared.specifiers.Next.TheVariants.{More, End}
use Rattle.parse_input.proofs.Then.{behind_falls, followed, Begins, reads_followed, deepen_none}

-- what is read behind a specifier, or behind their end
abbrev pub next_parts : SpecifierContext → Scope → Next → Reading SpecsRead
next_parts context s (More x state) = more_specs context s state x
next_parts context s (End bracket) = Return (record { specs = []; bracket = bracket })

module _ (room : ℕ) (context : SpecifierContext) (s : Scope) where
  abbrev pub go_on : Outcome Lexeme Next → Outcome Lexeme SpecsRead
  go_on o = after (λ n d left. deepen d (reads (named room) (next_parts context s n) left)) o

  abbrev more : SpecsState → Outcome Lexeme Spec → Outcome Lexeme SpecsRead
  more state o = after (λ x d left. deepen d (reads (named room) (more_specs context s state x) left)) o

  more_goes : (state : SpecsState) (o : Outcome Lexeme Spec) → more state o ≡ go_on (goes state o)
  more_goes state (Got x d left) = refl
  more_goes state (Bad deep left) = refl

  structure_parts : (p : ℕ) (ts : List Lexeme) → reads (named room) (followed (structure_of s p) (tagged context)) ts ≡ structure_read room context s p ts
  unfolding structure_read tagged_read
  structure_parts p ts = reads_followed (structure_of s p) (named room) (tagged context) ts ((λ us. refl), (λ t. ((λ us. refl), (λ u. tt), tt)), (λ t. tt))

  enumeration_parts : (p : ℕ) (ts : List Lexeme) → reads (named room) (followed (enumeration_of s p) (tagged context)) ts ≡ enumeration_read room context s p ts
  unfolding enumeration_read tagged_read
  enumeration_parts p ts = reads_followed (enumeration_of s p) (named room) (tagged context) ts ((λ us. refl), (λ t. ((λ us. refl), (λ u. tt), tt)), (λ t. tt))

  structure_goes : (state : SpecsState) (p : ℕ) (ts : List Lexeme)
      → reads (named room) (grammar.structure context s state p) ts ≡ go_on (goes state (structure_read room context s p ts))
  structure_goes state p ts =
      reads_followed (more_specs context s state) (named room) (followed (structure_of s p) (tagged context)) ts
      ((λ us. refl), (λ t. ((λ us. refl), (λ u a. tt), tt)), (λ t a. tt))
      ∙ ap (λ o. more state o) (structure_parts p ts) ∙ more_goes state (structure_read room context s p ts)

  enumeration_goes : (state : SpecsState) (p : ℕ) (ts : List Lexeme)
      → reads (named room) (grammar.enumeration context s state p) ts ≡ go_on (goes state (enumeration_read room context s p ts))
  enumeration_goes state p ts =
      reads_followed (more_specs context s state) (named room) (followed (enumeration_of s p) (tagged context)) ts
      ((λ us. refl), (λ t. ((λ us. refl), (λ u a. tt), tt)), (λ t a. tt))
      ∙ ap (λ o. more state o) (enumeration_parts p ts) ∙ more_goes state (enumeration_read room context s p ts)

  attribute_goes : (state : SpecsState) (g : Reading Attr) (ts : List Lexeme) → Begins (λ a. more_specs context s state (spec.Attribute a)) g
      → reads (named room) (followed (λ a. more_specs context s state (spec.Attribute a)) g) ts ≡ go_on (goes state (attributed (reads (named room) g ts)))
  attribute_goes state g ts h = reads_followed (λ a. more_specs context s state (spec.Attribute a)) (named room) g ts h ∙ go (reads (named room) g ts)
    where
      go : (o : Outcome Lexeme Attr)
          → after (λ a d left. deepen d (reads (named room) (more_specs context s state (spec.Attribute a)) left)) o ≡ go_on (goes state (attributed o))
      go (Got a d left) = refl
      go (Bad deep left) = refl

  dead : {A : Type 0} (x y : A) (ts : List Lexeme) → cond (sees (λ t. false) ts) x y ≡ y
  unfolding sees
  dead x y [] = refl
  dead x y (t ∷ ts) = refl

  ends : (e : Bool) (bracket : Option ℕ) (ts : List Lexeme) → reads (named room) (end_specs e bracket) ts ≡ go_on (ended e bracket ts)
  ends true bracket ts = refl
  ends false bracket ts = dead _ _ ts

  bracket_goes : (e : Bool) (state : SpecsState) (p : ℕ) (ts : List Lexeme)
      → reads (named room) (grammar.bracket_rest e context s state p) ts ≡ go_on (bracket_read room e state p ts)
  unfolding bracket_read
  bracket_goes e state p ts =
      go (sees (is k.OpenBracket) ts) _ _ _ _ _ (attribute_goes state (bracket_attribute p) (behind ts) (λ words. tt)) (ends e (Some p) ts)
    where
      go : (b : Bool) (one end w : Outcome Lexeme SpecsRead) (one' end' : Outcome Lexeme Next) → one ≡ go_on one' → end ≡ go_on end'
          → cond b (cond b one w) end ≡ go_on (cond b one' end')
      go true one end w one' end' e f = e
      go false one end w one' end' e f = f

  until : (e : Bool) (state : SpecsState) (ts : List Lexeme) → is_whole context state ≡ e
      → reads (named room) (grammar.specs_until e context s state) ts ≡ go_on (next_read room context s state ts)
  unfolding next_read word_next
  until e state ts h =
      go (sees (is_spec_word context s state) ts) (sees (λ t. is k.Struct t && is_none state.type_specifiers) ts) (sees (λ t. is k.Enum t && is_none state.type_specifiers) ts)
      (sees (is k.Attribute) ts) (sees (λ t. is k.OpenBracket t && not (is_barred context)) ts) _ _ _ _ _ _ _ _ _ _ _ _ _ _ _ _ _
      (sym (deepen_none (reads (named room) (more_specs context s (after_terminal state (head ts).terminal) (spec_of (head ts).terminal (head ts))) (behind ts))))
      (structure_goes (after_type state) (place (head ts)) (behind ts)) (enumeration_goes (after_type state) (place (head ts)) (behind ts))
      (attribute_goes state (gnu_attribute (place (head ts))) (behind ts) (λ t u words. tt))
      (rw h (bracket_goes (is_abstract context && e) state (place (head ts)) (behind ts))) (rw h (ends e None ts))
    where
      go : (a b c g h : Bool) (one two three four five six v w x y z : Outcome Lexeme SpecsRead) (one' two' three' four' five' six' : Outcome Lexeme Next)
          → one ≡ go_on one' → two ≡ go_on two' → three ≡ go_on three' → four ≡ go_on four' → five ≡ go_on five' → six ≡ go_on six'
          → cond a (cond a one v) (cond b (cond b two w) (cond c (cond c three x) (cond g (cond g four y) (cond h (cond h five z) six))))
          ≡ go_on (cond a one' (cond b two' (cond c three' (cond g four' (cond h five' six')))))
      go true b c g h one two three four five six v w x y z one' two' three' four' five' six' e1 e2 e3 e4 e5 e6 = e1
      go false true c g h one two three four five six v w x y z one' two' three' four' five' six' e1 e2 e3 e4 e5 e6 = e2
      go false false true g h one two three four five six v w x y z one' two' three' four' five' six' e1 e2 e3 e4 e5 e6 = e3
      go false false false true h one two three four five six v w x y z one' two' three' four' five' six' e1 e2 e3 e4 e5 e6 = e4
      go false false false false true one two three four five six v w x y z one' two' three' four' five' six' e1 e2 e3 e4 e5 e6 = e5
      go false false false false false one two three four five six v w x y z one' two' three' four' five' six' e1 e2 e3 e4 e5 e6 = e6

  pub specs_rule : (state : SpecsState) (ts : List Lexeme) → named room (Specs context s state) ts ≡ go_on (next_read room context s state ts)
  specs_rule state ts = plain_rule room (Specs context s state) ts (grammar.specs context s state) refl ∙ until (is_whole context state) state ts refl

pub specs_begin : (room : ℕ) (context : SpecifierContext) (s : Scope) (state : SpecsState) (ts : List Lexeme)
    → named room (Specs context s state) ts ≡ behind_specs [] 0 (named room (Specs context s state) ts)
specs_begin room context s state ts = go (named room (Specs context s state) ts)
  where
    go : (o : Outcome Lexeme SpecsRead) → o ≡ behind_specs [] 0 o
    go (Got x d left) = ap (λ n. Got x n left) (omega arith)
    go (Bad deep left) = refl

module _ (room : ℕ) (s : Scope) (first context : SpecifierContext) (begin state : SpecsState) (start ts us : List Lexeme) (xs : List Spec) (depth : ℕ)
    (h : named room (Specs first s begin) start ≡ behind_specs xs depth (named room (Specs context s state) ts)) where
  pub specs_goes : (x : Spec) (on : SpecsState) (d : ℕ) → next_read room context s state ts ≡ Got (More x on) d us
      → named room (Specs first s begin) start ≡ behind_specs (xs ++ x ∷ []) (max depth d) (named room (Specs (next_context context) s on) us)
  specs_goes x on d e =
      h ∙ ap (λ o. behind_specs xs depth o) (specs_rule room context s state ts ∙ rw e) ∙ go (named room (Specs (next_context context) s on) us)
    where
      go : (o : Outcome Lexeme SpecsRead)
          → behind_specs xs depth (deepen d (after (λ more e left. deepen e (Got (grammar.with_spec x more) zero left)) o)) ≡ behind_specs (xs ++ x ∷ []) (max depth d) o
      go (Got more e left) =
          ap (λ all. Got (record { specs = all; bracket = more.bracket }) (max depth (max d (max e 0))) left) (sym (append_assoc xs (x ∷ []) more.specs))
          ∙ ap (λ n. Got (record { specs = (xs ++ x ∷ []) ++ more.specs; bracket = more.bracket }) n left) (omega arith)
      go (Bad deep left) = refl

  pub specs_end : (bracket : Option ℕ) (d : ℕ) → next_read room context s state ts ≡ Got (End bracket) d us
      → named room (Specs first s begin) start ≡ Got (record { specs = xs; bracket = bracket }) (max depth d) us
  specs_end bracket d e =
      let here : named room (Specs context s state) ts ≡ Got (record { specs = []; bracket = bracket }) (max d 0) us = specs_rule room context s state ts ∙ rw e in
      h ∙ ap (λ o. behind_specs xs depth o) here
      ∙ ap (λ all. Got (record { specs = all; bracket = bracket }) (max depth (max d 0)) us) (append-nil xs)
      ∙ ap (λ n. Got (record { specs = xs; bracket = bracket }) n us) (omega arith)

  pub specs_lack : (deep : Bool) → next_read room context s state ts ≡ Bad deep us → named room (Specs first s begin) start ≡ Bad deep us
  specs_lack deep e =
      let here : named room (Specs context s state) ts ≡ Bad deep us = specs_rule room context s state ts ∙ rw e in h ∙ ap (λ o. behind_specs xs depth o) here

-- a specifier takes a token, at the least
abbrev Shrinks : ℕ → Outcome Lexeme Next → Type 0
Shrinks n (Got (More x on) d us) = length us < n
Shrinks n (Got (End bracket) d us) = Unit {0}
Shrinks n (Bad deep us) = Unit {0}

goes_shrinks : (n : ℕ) (state : SpecsState) (o : Outcome Lexeme Spec) → ((x : Spec) (d : ℕ) (us : List Lexeme) → o ≡ Got x d us → length us < n)
    → Shrinks n (goes state o)
goes_shrinks n state (Got x d us) h = h x d us refl
goes_shrinks n state (Bad deep us) h = tt

attributed_shrinks : (n : ℕ) (state : SpecsState) (o : Outcome Lexeme Attr) → ((x : Attr) (d : ℕ) (us : List Lexeme) → o ≡ Got x d us → length us < n)
    → Shrinks n (goes state (attributed o))
attributed_shrinks n state (Got x d us) h = h x d us refl
attributed_shrinks n state (Bad deep us) h = tt

ended_shrinks : (n : ℕ) (e : Bool) (bracket : Option ℕ) (us : List Lexeme) → Shrinks n (ended e bracket us)
ended_shrinks n true bracket us = tt
ended_shrinks n false bracket us = tt

either_shrinks : (n : ℕ) (b : Bool) (o p : Outcome Lexeme Next) → (b ≡ true → Shrinks n o) → Shrinks n p → Shrinks n (cond b o p)
either_shrinks n true o p h i = h refl
either_shrinks n false o p h i = i

module _ (room : ℕ) (context : SpecifierContext) (s : Scope) (state : SpecsState) where
  bracket_shrinks : (n : ℕ) (e : Bool) (p : ℕ) (ts : List Lexeme) → length ts < n → Shrinks n (bracket_read room e state p ts)
  unfolding bracket_read
  bracket_shrinks n e p ts l =
      either_shrinks n (sees (is k.OpenBracket) ts) (goes state (attributed (reads (named room) (bracket_attribute p) (behind ts)))) (ended e (Some p) ts)
      (λ b. attributed_shrinks n state (reads (named room) (bracket_attribute p) (behind ts))
      (λ x d us e. let fall = behind_falls room (bracket_attribute p) (is k.OpenBracket) ts b x d us e in omega arith))
      (ended_shrinks n e (Some p) ts)

  next_shrinks : (ts : List Lexeme) → Shrinks (length ts) (next_read room context s state ts)
  unfolding next_read word_next
  next_shrinks ts =
      either_shrinks (length ts) (sees (is_spec_word context s state) ts) _ _ (λ b. sees_less (is_spec_word context s state) ts b)
      (either_shrinks (length ts) (sees (λ t. is k.Struct t && is_none state.type_specifiers) ts) _ _
      (λ b. goes_shrinks (length ts) (after_type state) (structure_read room context s (place (head ts)) (behind ts))
      (λ x d us e. behind_falls room (followed (structure_of s (place (head ts))) (tagged context)) (λ t. is k.Struct t && is_none state.type_specifiers) ts b x d us
      (structure_parts room context s (place (head ts)) (behind ts) ∙ e)))
      (either_shrinks (length ts) (sees (λ t. is k.Enum t && is_none state.type_specifiers) ts) _ _
      (λ b. goes_shrinks (length ts) (after_type state) (enumeration_read room context s (place (head ts)) (behind ts))
      (λ x d us e. behind_falls room (followed (enumeration_of s (place (head ts))) (tagged context)) (λ t. is k.Enum t && is_none state.type_specifiers) ts b x d us
      (enumeration_parts room context s (place (head ts)) (behind ts) ∙ e)))
      (either_shrinks (length ts) (sees (is k.Attribute) ts) _ _
      (λ b. attributed_shrinks (length ts) state (reads (named room) (gnu_attribute (place (head ts))) (behind ts))
      (λ x d us e. behind_falls room (gnu_attribute (place (head ts))) (is k.Attribute) ts b x d us e))
      (either_shrinks (length ts) (sees (λ t. is k.OpenBracket t && not (is_barred context)) ts) _ _
      (λ b. bracket_shrinks (length ts) (is_abstract context && is_whole context state) (place (head ts)) (behind ts)
      (sees_less (λ t. is k.OpenBracket t && not (is_barred context)) ts b))
      (ended_shrinks (length ts) (is_whole context state) None ts)))))

  pub next_falls : (ts us : List Lexeme) (x : Spec) (on : SpecsState) (d : ℕ) → next_read room context s state ts ≡ Got (More x on) d us → length us < length ts
  next_falls ts us x on d e = rw e at (next_shrinks ts)
