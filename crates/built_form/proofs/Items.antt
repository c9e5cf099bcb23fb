-- What was read is the spelling of a call, of a body, of an item, of a file, and of nothing else.
use Rattle.std.proofs.Common.{◌≡◌, ℕ, ◌<◌, length, List, [], ◌∷◌, ◌++◌, refl, sym, subst, ap, ◌∙◌, append_assoc, append-nil, codes, drop, arith, Option, Some, None}
use Rattle.c_text.specs.declared.Token.{Token}
use Rattle.built_form.specs.declared.item.Item.{Item}
use Rattle.built_form.specs.declared.item.Kind.{Kind}
use Rattle.built_form.specs.declared.item.Kind.TheVariants.{Void, Main}
use Rattle.built_form.specs.declared.item.Ending.{Ending}
use Rattle.built_form.specs.declared.item.Mark.{Mark}
use Rattle.built_form.specs.declared.item.Mark.TheVariants.{Nonblocking, Blocking}
use Rattle.built_form.specs.Form.{Lexeme, Part, Begins, Spells, parameters, word_of, attribute_front, attribute_end, brace, return_zero, result_of, spelled_named, spelled_mark, spelled_attribute, spelled_call, spelled_calls, spelled_block, spelled_body, spelled_ending, spelled_kind, spelled_item, spelled_items}
use Rattle.built_form.specs.Form.Part.{Sign, Keyword, Word, Ident}
use Rattle.built_form.specs.Reading.{Finds, FindsNone, EndsCalls}
use Rattle.built_form.proofs.Parts.{begins_same, begins_shorter, spells_within, signs_first, keywords_first, words_same, names_same, name_or_end, spells_rest, spells_append, spells_after, spells_front}
use Rattle.built_form.proofs.Finding.{Joins, both_found, first_none, second_none, paired, pairs, always, fixed_found, fixed_none}
use Rattle.built_form.proofs.Progress.{Progress}

-- Names, with what stands behind them.

abbrev pub one_name : Token → List Part
one_name name = Ident name ∷ []

pub name_found : (a b : List Lexeme) (name : Token) → Begins (Ident name) a b → Finds one_name a name b
name_found a b name x = record {
  read = λ parts end h. (b, x, h);
  only = λ y parts end h.
      (names_same y name a h.0 b h.1 x, subst (λ l. Spells parts l end) (begins_same (Ident y) (Ident name) a h.0 b h.1 x) h.2);
}

pub name_none : (a : List Lexeme) → ((name : Token) (rest : List Lexeme) → Begins (Ident name) a rest → ⊥) → FindsNone one_name a
name_none a none = record { none = λ y parts end h. none y h.0 h.1 }

pub named_joins : (parts : List Part) → Joins one_name (always parts) (spelled_named parts) (λ name nothing. name)
named_joins parts = record {
  spells = λ x y more. refl;
  halves = λ z. (z, tt, refl);
}

-- The names of attributes, and attributes.

abbrev pub mark_word : Mark → List Part
mark_word mark = Word (word_of mark) ∷ []

word_of-one : (x y : Mark) → word_of x ≡ word_of y → x ≡ y
word_of-one Nonblocking Nonblocking e = refl
word_of-one Nonblocking Blocking e = cc
word_of-one Blocking Nonblocking e = cc
word_of-one Blocking Blocking e = refl

pub word_found : (a b : List Lexeme) (mark : Mark) → Begins (Word (word_of mark)) a b → Finds mark_word a mark b
word_found a b mark x = record {
  read = λ parts end h. (b, x, h);
  only = λ y parts end h. (
    word_of-one y mark (words_same (word_of y) (word_of mark) a h.0 b h.1 x),
    subst (λ l. Spells parts l end) (begins_same (Word (word_of y)) (Word (word_of mark)) a h.0 b h.1 x) h.2,
  );
}

pub word_none : (a : List Lexeme) → ((mark : Mark) (rest : List Lexeme) → Begins (Word (word_of mark)) a rest → ⊥) → FindsNone mark_word a
word_none a none = record { none = λ y parts end h. none y h.0 h.1 }

pub no_word : (a : List Lexeme) → ((rest : List Lexeme) → Begins (Word (codes "nonblocking")) a rest → ⊥)
    → ((rest : List Lexeme) → Begins (Word (codes "blocking")) a rest → ⊥)
    → (mark : Mark) (rest : List Lexeme) → Begins (Word (word_of mark)) a rest → ⊥
no_word a not_nonblocking not_blocking Nonblocking rest x = not_nonblocking rest x
no_word a not_nonblocking not_blocking Blocking rest x = not_blocking rest x

abbrev word_end : Mark → List Part
word_end mark = Word (word_of mark) ∷ attribute_end

word_joins : Joins mark_word (always attribute_end) word_end (λ mark nothing. mark)
word_joins = record {
  spells = λ x y more. refl;
  halves = λ z. (z, tt, refl);
}

mark_joins : Joins (always attribute_front) word_end spelled_mark (λ nothing mark. mark)
mark_joins = record {
  spells = λ x y more. refl;
  halves = λ z. (tt, z, refl);
}

pub mark_found : (a b c d : List Lexeme) (mark : Mark) → Spells attribute_front a b → Begins (Word (word_of mark)) b c
    → Spells attribute_end c d → Finds spelled_mark a mark d
mark_found a b c d mark x y z =
    both_found mark_joins (fixed_found attribute_front x)
    (both_found word_joins (word_found b c mark y) (fixed_found attribute_end z))

pub mark_no_front : (a : List Lexeme) → ((rest : List Lexeme) → Spells attribute_front a rest → ⊥) → FindsNone spelled_mark a
mark_no_front a none = first_none mark_joins (fixed_none attribute_front none)

pub mark_no_word : (a b : List Lexeme) → Spells attribute_front a b
    → ((mark : Mark) (rest : List Lexeme) → Begins (Word (word_of mark)) b rest → ⊥) → FindsNone spelled_mark a
mark_no_word a b x none =
    second_none mark_joins (fixed_found attribute_front x) (first_none word_joins (word_none b none))

pub mark_no_end : (a b c : List Lexeme) (mark : Mark) → Spells attribute_front a b → Begins (Word (word_of mark)) b c
    → ((rest : List Lexeme) → Spells attribute_end c rest → ⊥) → FindsNone spelled_mark a
mark_no_end a b c mark x y none =
    second_none mark_joins (fixed_found attribute_front x)
    (second_none word_joins (word_found b c mark y) (fixed_none attribute_end none))

-- Blocks: calls up to what closes them.

-- the parts begin with what closes a block
abbrev pub Closes : List Part → List Part → List Lexeme → Type 0
Closes closing parts end = (more : List Part) × (parts ≡ closing ++ more)

pub call_shorter : (name : Token) (a b : List Lexeme) → Finds spelled_call a name b → length b < length a
call_shorter name a b f =
    let h = f.read [] b refl in
    omega (arith, begins_shorter (Ident name) a h.0 h.1, spells_within (drop 1 (spelled_call name)) h.0 b h.2)

-- a name comes next, so the block isn't closed here
pub still_open : (closing : List Part) (name : Token) (now rest : List Lexeme) → EndsCalls closing → Begins (Ident name) now rest
    → (parts : List Part) (end : List Lexeme) → Closes closing parts end → Spells parts now end → ⊥
still_open closing name now rest ends x parts end (more, e) h =
    name_or_end name closing more now rest end ends x (subst (λ ps. Spells ps now end) e h)

abbrev closed : List Part → List Token → List Part
closed closing names = spelled_calls names ++ closing

block_joins : (closing : List Part) → Joins (always (Sign (codes "{") ∷ [])) (closed closing) (spelled_block closing) (λ nothing names. names)
block_joins closing = record {
  spells = λ x y more. refl;
  halves = λ z. (tt, z, refl);
}

module _ (closing : List Part) (found : List Token) (start now : List Lexeme) (before : Progress spelled_call (Closes closing) found start now) where
  -- what the calls that are left are, if this is a block
  left : (names : List Token) (parts : List Part) (end : List Lexeme) → Spells (closed closing names ++ parts) start end
      → (more : List Token) × (names ≡ found ++ more) × Spells (spelled_calls more ++ (closing ++ parts)) now end
  left names parts end h =
      before.only names (closing ++ parts) end (parts, refl)
      (subst (λ ps. Spells ps start end) (append_assoc (spelled_calls names) closing parts) h)

  closed_found : (after : List Lexeme) → ((name : Token) (rest : List Lexeme) → Begins (Ident name) now rest → ⊥)
      → Spells closing now after → Finds (closed closing) start found after
  closed_found after none x = record {
    read = λ parts end h.
        subst (λ ps. Spells ps start end) (sym (append_assoc (spelled_calls found) closing parts))
        (before.read (closing ++ parts) end (spells_append closing parts now after end x h));
    only = λ names parts end h. go names parts end (left names parts end h);
  }
    where
      go : (names : List Token) (parts : List Part) (end : List Lexeme)
          → ((more : List Token) × (names ≡ found ++ more) × Spells (spelled_calls more ++ (closing ++ parts)) now end)
          → (names ≡ found) × Spells parts after end
      go names parts end ([], e, h) = (e ∙ append-nil found, spells_after closing parts now after end x h)
      go names parts end (m ∷ more, e, h) = absurd (none m h.0 h.1)

  closed_no_end : ((name : Token) (rest : List Lexeme) → Begins (Ident name) now rest → ⊥)
      → ((rest : List Lexeme) → Spells closing now rest → ⊥) → FindsNone (closed closing) start
  closed_no_end none open_still = record { none = λ names parts end h. go parts end (left names parts end h) }
    where
      go : {names : List Token} (parts : List Part) (end : List Lexeme)
          → ((more : List Token) × (names ≡ found ++ more) × Spells (spelled_calls more ++ (closing ++ parts)) now end) → ⊥
      go parts end ([], e, h) = let front = spells_front closing parts now end h in open_still front.0 front.1
      go parts end (m ∷ more, e, h) = none m h.0 h.1

  closed_no_call : (name : Token) (rest : List Lexeme) → EndsCalls closing → Begins (Ident name) now rest → FindsNone spelled_call now
      → FindsNone (closed closing) start
  closed_no_call name rest ends x no_call = record { none = λ names parts end h. go parts end (left names parts end h) }
    where
      go : {names : List Token} (parts : List Part) (end : List Lexeme)
          → ((more : List Token) × (names ≡ found ++ more) × Spells (spelled_calls more ++ (closing ++ parts)) now end) → ⊥
      go parts end ([], e, h) = name_or_end name closing parts now rest end ends x h
      go parts end (m ∷ more, e, h) =
          no_call.none m (spelled_calls more ++ (closing ++ parts)) end
          (subst (λ ps. Spells ps now end) (append_assoc (spelled_call m) (spelled_calls more) (closing ++ parts)) h)

-- the block is open, and the calls that were found are all that it has
pub block_found : (closing : List Part) (found : List Token) (a start now after : List Lexeme) → Begins (Sign (codes "{")) a start
    → Progress spelled_call (Closes closing) found start now
    → ((name : Token) (rest : List Lexeme) → Begins (Ident name) now rest → ⊥) → Spells closing now after
    → Finds (spelled_block closing) a found after
block_found closing found a start now after x before none y =
    both_found (block_joins closing) (fixed_found (Sign (codes "{") ∷ []) (start, x, refl))
    (closed_found closing found start now before after none y)

pub block_no_brace : (closing : List Part) (a : List Lexeme) → ((rest : List Lexeme) → Begins (Sign (codes "{")) a rest → ⊥)
    → FindsNone (spelled_block closing) a
block_no_brace closing a none = record { none = λ names parts end h. none h.0 h.1 }

pub block_no_call : (closing : List Part) (found : List Token) (a start now rest : List Lexeme) (name : Token)
    → Begins (Sign (codes "{")) a start → Progress spelled_call (Closes closing) found start now → EndsCalls closing
    → Begins (Ident name) now rest → FindsNone spelled_call now → FindsNone (spelled_block closing) a
block_no_call closing found a start now rest name x before ends y none =
    second_none (block_joins closing) (fixed_found (Sign (codes "{") ∷ []) (start, x, refl))
    (closed_no_call closing found start now before name rest ends y none)

pub block_no_end : (closing : List Part) (found : List Token) (a start now : List Lexeme) → Begins (Sign (codes "{")) a start
    → Progress spelled_call (Closes closing) found start now
    → ((name : Token) (rest : List Lexeme) → Begins (Ident name) now rest → ⊥)
    → ((rest : List Lexeme) → Spells closing now rest → ⊥) → FindsNone (spelled_block closing) a
block_no_end closing found a start now x before none open_still =
    second_none (block_joins closing) (fixed_found (Sign (codes "{") ∷ []) (start, x, refl))
    (closed_no_end closing found start now before none open_still)

-- Bodies, or the semicolon in place of one.

semicolon_or_brace : (a b c : List Lexeme) → Begins (Sign (codes ";")) a b → Begins (Sign (codes "{")) a c → ⊥
semicolon_or_brace a b c x y = let e : ◌≡◌ {A = ℕ} 59 123 = signs_first (codes ";") (codes "{") a b c x y in absurd (omega arith)

pub declared_found : (a b : List Lexeme) → Begins (Sign (codes ";")) a b → Finds spelled_body a None b
declared_found a b x = record { read = λ parts end h. (b, x, h); only = only }
  where
    only : (y : Option (List Token)) (parts : List Part) (end : List Lexeme) → Spells (spelled_body y ++ parts) a end
        → (y ≡ None) × Spells parts b end
    only None parts end h = (refl, spells_rest parts end x h)
    only (Some calls) parts end h = absurd (semicolon_or_brace a b h.0 x h.1)

pub defined_found : (a b : List Lexeme) (calls : List Token) → ((rest : List Lexeme) → Begins (Sign (codes ";")) a rest → ⊥)
    → Finds (spelled_block brace) a calls b → Finds spelled_body a (Some calls) b
defined_found a b calls not_declared block = record { read = block.read; only = only }
  where
    only : (y : Option (List Token)) (parts : List Part) (end : List Lexeme) → Spells (spelled_body y ++ parts) a end
        → (y ≡ Some calls) × Spells parts b end
    only None parts end h = absurd (not_declared h.0 h.1)
    only (Some names) parts end h = let f = block.only names parts end h in (ap (λ n. Some n) f.0, f.1)

pub body_none : (a : List Lexeme) → ((rest : List Lexeme) → Begins (Sign (codes ";")) a rest → ⊥) → FindsNone (spelled_block brace) a
    → FindsNone spelled_body a
body_none a not_declared block = record { none = none }
  where
    none : (y : Option (List Token)) (parts : List Part) (end : List Lexeme) → Spells (spelled_body y ++ parts) a end → ⊥
    none None parts end h = not_declared h.0 h.1
    none (Some names) parts end h = block.none names parts end h

-- Endings.

-- a body doesn't begin where an attribute does
no_body : (a b : List Lexeme) (calls : Option (List Token)) (parts : List Part) (end : List Lexeme) → Begins (Sign (codes "[")) a b
    → Spells (spelled_body calls ++ parts) a end → ⊥
no_body a b None parts end x h =
    let e : ◌≡◌ {A = ℕ} 91 59 = signs_first (codes "[") (codes ";") a b h.0 x h.1 in absurd (omega arith)
no_body a b (Some calls) parts end x h =
    let e : ◌≡◌ {A = ℕ} 91 123 = signs_first (codes "[") (codes "{") a b h.0 x h.1 in absurd (omega arith)

abbrev marked : Mark × Option (List Token) → List Part
marked = paired spelled_mark spelled_body

marked_ending_found : (a b c : List Lexeme) (mark : Mark) (calls : Option (List Token)) → Begins (Sign (codes "[")) a b
    → Finds marked a (mark, calls) c → Finds spelled_ending a (record { mark = Some mark; calls = calls }) c
marked_ending_found a b c mark calls x both = record { read = both.read; only = λ y. only y.mark y.calls }
  where
    only : (m : Option Mark) (cs : Option (List Token)) (parts : List Part) (end : List Lexeme)
        → Spells ((spelled_attribute m ++ spelled_body cs) ++ parts) a end
        → (◌≡◌ {A = Ending} (record { mark = m; calls = cs }) (record { mark = Some mark; calls = calls })) × Spells parts c end
    only None cs parts end h = absurd (no_body a b cs parts end x h)
    only (Some m) cs parts end h =
        let f = both.only (m, cs) parts end h in
        let P : Mark × Option (List Token) → Ending = λ p. record { mark = Some p.0; calls = p.1 } in
        (ap P f.0, f.1)

marked_ending_none : (a b : List Lexeme) → Begins (Sign (codes "[")) a b → FindsNone marked a → FindsNone spelled_ending a
marked_ending_none a b x both = record { none = λ y. none y.mark y.calls }
  where
    none : (m : Option Mark) (cs : Option (List Token)) (parts : List Part) (end : List Lexeme)
        → Spells ((spelled_attribute m ++ spelled_body cs) ++ parts) a end → ⊥
    none None cs parts end h = no_body a b cs parts end x h
    none (Some m) cs parts end h = both.none (m, cs) parts end h

pub marked_found : (a b c : List Lexeme) (mark : Mark) (calls : Option (List Token))
    → ((rest : List Lexeme) × Begins (Sign (codes "[")) a rest) → Finds spelled_mark a mark b → Finds spelled_body b calls c
    → Finds spelled_ending a (record { mark = Some mark; calls = calls }) c
marked_found a b c mark calls x y z = marked_ending_found a x.0 c mark calls x.1 (both_found (pairs spelled_mark spelled_body) y z)

pub marked_no_mark : (a : List Lexeme) → ((rest : List Lexeme) × Begins (Sign (codes "[")) a rest) → FindsNone spelled_mark a
    → FindsNone spelled_ending a
marked_no_mark a x none = marked_ending_none a x.0 x.1 (first_none (pairs spelled_mark spelled_body) none)

pub marked_no_body : (a b : List Lexeme) (mark : Mark) → ((rest : List Lexeme) × Begins (Sign (codes "[")) a rest)
    → Finds spelled_mark a mark b → FindsNone spelled_body b → FindsNone spelled_ending a
marked_no_body a b mark x y none = marked_ending_none a x.0 x.1 (second_none (pairs spelled_mark spelled_body) y none)

pub unmarked_found : (a b : List Lexeme) (calls : Option (List Token)) → ((rest : List Lexeme) → Begins (Sign (codes "[")) a rest → ⊥)
    → Finds spelled_body a calls b → Finds spelled_ending a (record { mark = None; calls = calls }) b
unmarked_found a b calls not_marked body = record { read = body.read; only = λ y. only y.mark y.calls }
  where
    only : (m : Option Mark) (cs : Option (List Token)) (parts : List Part) (end : List Lexeme)
        → Spells ((spelled_attribute m ++ spelled_body cs) ++ parts) a end
        → (◌≡◌ {A = Ending} (record { mark = m; calls = cs }) (record { mark = None; calls = calls })) × Spells parts b end
    only None cs parts end h =
        let f = body.only cs parts end h in
        let P : Option (List Token) → Ending = λ cs. record { mark = None; calls = cs } in
        (ap P f.0, f.1)
    only (Some m) cs parts end h = absurd (not_marked h.0 h.1)

pub unmarked_none : (a : List Lexeme) → ((rest : List Lexeme) → Begins (Sign (codes "[")) a rest → ⊥) → FindsNone spelled_body a
    → FindsNone spelled_ending a
unmarked_none a not_marked body = record { none = λ y. none y.mark y.calls }
  where
    none : (m : Option Mark) (cs : Option (List Token)) (parts : List Part) (end : List Lexeme)
        → Spells ((spelled_attribute m ++ spelled_body cs) ++ parts) a end → ⊥
    none None cs parts end h = body.none cs parts end h
    none (Some m) cs parts end h = not_marked h.0 h.1

-- Items.

pub item_shorter : (item : Item) (a b : List Lexeme) → Finds spelled_item a item b → length b < length a
item_shorter item a b f =
    let h = f.read [] b refl in
    omega (
      arith,
      begins_shorter (Keyword (result_of item.kind)) a h.0 h.1,
      spells_within ((spelled_named parameters item.name ++ spelled_kind item.kind) ++ []) h.0 b h.2,
    )

int_or_void : (a b c : List Lexeme) → Begins (Keyword (codes "int")) a b → Begins (Keyword (codes "void")) a c → ⊥
int_or_void a b c x y = let e : ◌≡◌ {A = ℕ} 105 118 = keywords_first (codes "int") (codes "void") a b c x y in absurd (omega arith)

abbrev of_main : Token × List Token → List Part
of_main = paired (spelled_named parameters) (spelled_block return_zero)

abbrev of_void : Token × Ending → List Part
of_void = paired (spelled_named parameters) spelled_ending

item_main : (a b c : List Lexeme) (name : Token) (calls : List Token) → Begins (Keyword (codes "int")) a b
    → Finds of_main b (name, calls) c → Finds spelled_item a (record { name = name; kind = Main calls }) c
item_main a b c name calls x both = record { read = λ parts end h. (b, x, both.read parts end h); only = λ y. only y.name y.kind }
  where
    only : (n : Token) (k : Kind) (parts : List Part) (end : List Lexeme) → Spells (spelled_item (record { name = n; kind = k }) ++ parts) a end
        → (◌≡◌ {A = Item} (record { name = n; kind = k }) (record { name = name; kind = Main calls })) × Spells parts c end
    only n (Void ending) parts end h = absurd (int_or_void a b h.0 x h.1)
    only n (Main cs) parts end h =
        let f = both.only (n, cs) parts end (spells_rest (of_main (n, cs) ++ parts) end x h) in
        let P : Token × List Token → Item = λ p. record { name = p.0; kind = Main p.1 } in
        (ap P f.0, f.1)

item_no_main : (a b : List Lexeme) → Begins (Keyword (codes "int")) a b → FindsNone of_main b → FindsNone spelled_item a
item_no_main a b x both = record { none = λ y. none y.name y.kind }
  where
    none : (n : Token) (k : Kind) (parts : List Part) (end : List Lexeme) → Spells (spelled_item (record { name = n; kind = k }) ++ parts) a end → ⊥
    none n (Void ending) parts end h = int_or_void a b h.0 x h.1
    none n (Main cs) parts end h = both.none (n, cs) parts end (spells_rest (of_main (n, cs) ++ parts) end x h)

item_void : (a b c : List Lexeme) (name : Token) (ending : Ending) → Begins (Keyword (codes "void")) a b
    → Finds of_void b (name, ending) c → Finds spelled_item a (record { name = name; kind = Void ending }) c
item_void a b c name ending x both = record { read = λ parts end h. (b, x, both.read parts end h); only = λ y. only y.name y.kind }
  where
    only : (n : Token) (k : Kind) (parts : List Part) (end : List Lexeme) → Spells (spelled_item (record { name = n; kind = k }) ++ parts) a end
        → (◌≡◌ {A = Item} (record { name = n; kind = k }) (record { name = name; kind = Void ending })) × Spells parts c end
    only n (Void e) parts end h =
        let f = both.only (n, e) parts end (spells_rest (of_void (n, e) ++ parts) end x h) in
        let P : Token × Ending → Item = λ p. record { name = p.0; kind = Void p.1 } in
        (ap P f.0, f.1)
    only n (Main cs) parts end h = absurd (int_or_void a h.0 b h.1 x)

item_no_void : (a b : List Lexeme) → Begins (Keyword (codes "void")) a b → FindsNone of_void b → FindsNone spelled_item a
item_no_void a b x both = record { none = λ y. none y.name y.kind }
  where
    none : (n : Token) (k : Kind) (parts : List Part) (end : List Lexeme) → Spells (spelled_item (record { name = n; kind = k }) ++ parts) a end → ⊥
    none n (Void e) parts end h = both.none (n, e) parts end (spells_rest (of_void (n, e) ++ parts) end x h)
    none n (Main cs) parts end h = int_or_void a h.0 b h.1 x

pub item_neither : (a : List Lexeme) → ((rest : List Lexeme) → Begins (Keyword (codes "int")) a rest → ⊥)
    → ((rest : List Lexeme) → Begins (Keyword (codes "void")) a rest → ⊥) → FindsNone spelled_item a
item_neither a not_main not_void = record { none = λ y. none y.name y.kind }
  where
    none : (n : Token) (k : Kind) (parts : List Part) (end : List Lexeme) → Spells (spelled_item (record { name = n; kind = k }) ++ parts) a end → ⊥
    none n (Void e) parts end h = not_void h.0 h.1
    none n (Main cs) parts end h = not_main h.0 h.1

pub main_found : (a b c d : List Lexeme) (name : Token) (calls : List Token) → Begins (Keyword (codes "int")) a b
    → Finds (spelled_named parameters) b name c → Finds (spelled_block return_zero) c calls d
    → Finds spelled_item a (record { name = name; kind = Main calls }) d
main_found a b c d name calls x y z =
    item_main a b d name calls x (both_found (pairs (spelled_named parameters) (spelled_block return_zero)) y z)

pub main_no_head : (a b : List Lexeme) → Begins (Keyword (codes "int")) a b → FindsNone (spelled_named parameters) b → FindsNone spelled_item a
main_no_head a b x none =
    item_no_main a b x (first_none (pairs (spelled_named parameters) (spelled_block return_zero)) none)

pub main_no_body : (a b c : List Lexeme) (name : Token) → Begins (Keyword (codes "int")) a b → Finds (spelled_named parameters) b name c
    → FindsNone (spelled_block return_zero) c → FindsNone spelled_item a
main_no_body a b c name x y none =
    item_no_main a b x (second_none (pairs (spelled_named parameters) (spelled_block return_zero)) y none)

pub void_found : (a b c d : List Lexeme) (name : Token) (ending : Ending) → Begins (Keyword (codes "void")) a b
    → Finds (spelled_named parameters) b name c → Finds spelled_ending c ending d
    → Finds spelled_item a (record { name = name; kind = Void ending }) d
void_found a b c d name ending x y z =
    item_void a b d name ending x (both_found (pairs (spelled_named parameters) spelled_ending) y z)

pub void_no_head : (a b : List Lexeme) → Begins (Keyword (codes "void")) a b → FindsNone (spelled_named parameters) b → FindsNone spelled_item a
void_no_head a b x none = item_no_void a b x (first_none (pairs (spelled_named parameters) spelled_ending) none)

pub void_no_ending : (a b c : List Lexeme) (name : Token) → Begins (Keyword (codes "void")) a b → Finds (spelled_named parameters) b name c
    → FindsNone spelled_ending c → FindsNone spelled_item a
void_no_ending a b c name x y none = item_no_void a b x (second_none (pairs (spelled_named parameters) spelled_ending) y none)

-- Files: items up to the end.

abbrev pub EndsFile : List Part → List Lexeme → Type 0
EndsFile parts end = (parts ≡ []) × (end ≡ [])

pub not_ended : (now : List Lexeme) → (now ≡ [] → ⊥)
    → (parts : List Part) (end : List Lexeme) → EndsFile parts end → Spells parts now end → ⊥
not_ended now more parts end (p, q) h =
    let f : Spells [] now end = subst (λ ps. Spells ps now end) p h in more (f ∙ q)

pub file_read : (found : List Item) (start now : List Lexeme) → Progress spelled_item EndsFile found start now → now ≡ []
    → Spells (spelled_items found) start []
file_read found start now before e =
    subst (λ ps. Spells ps start []) (append-nil (spelled_items found)) (before.read [] [] e)

file_parts : (all : List Item) (start : List Lexeme) → Spells (spelled_items all) start [] → Spells (spelled_items all ++ []) start []
file_parts all start h = subst (λ ps. Spells ps start []) (sym (append-nil (spelled_items all))) h

pub file_only : (found : List Item) (start now : List Lexeme) → Progress spelled_item EndsFile found start now → now ≡ []
    → (all : List Item) → Spells (spelled_items all) start [] → all ≡ found
file_only found start now before e all h = go (before.only all [] [] (refl, refl) (file_parts all start h))
  where
    go : ((more : List Item) × (all ≡ found ++ more) × Spells (spelled_items more ++ []) now []) → all ≡ found
    go ([], p, s) = p ∙ append-nil found
    go (i ∷ more, p, s) = let f = s.1.split in cc

pub file_none : (found : List Item) (start now : List Lexeme) → Progress spelled_item EndsFile found start now
    → (now ≡ [] → ⊥) → FindsNone spelled_item now → (all : List Item) → Spells (spelled_items all) start [] → ⊥
file_none found start now before more_left none all h = go (before.only all [] [] (refl, refl) (file_parts all start h))
  where
    go : ((more : List Item) × (all ≡ found ++ more) × Spells (spelled_items more ++ []) now []) → ⊥
    go ([], p, s) = more_left s
    go (i ∷ more, p, s) =
        none.none i (spelled_items more ++ []) []
        (subst (λ ps. Spells ps now []) (append_assoc (spelled_item i) (spelled_items more) []) s)
