-- Objects of static storage and thread-local ones: those that are variables of file scope have their words, and each variable has one object.
use Rattle.std.proofs.Common.{◌≡◌, ℕ, ◌≤◌, ◌+◌, Bool, true, false, refl, sym, ◌∙◌, ap, subst, List, [], ◌∷◌, ◌++◌, length, length-set, slice_get, Option, Some, None, arith, eqb-true, ne_eqb, inl, inr}
use Rattle.std.proofs.lemmas.Bool.{eqb-false}
use Rattle.std.specs.List.{list_any}
use Rattle.std.specs.Prelude.{◌||◌, ◌⊎◌, nat_eq, slice_set}
use Rattle.core_unit.specs.Layout.{words_of}
use Rattle.core_unit.specs.Units.{IsApart, IsAmongObjects}
use Rattle.core_unit.specs.declared.tables.Object.{Object}
use Rattle.core_unit.specs.declared.tables.StructInfo.{StructInfo}
use Rattle.core_unit.specs.declared.tables.VariableInfo.{VariableInfo}
use Rattle.type_laws.proofs.Each.{Each, each_as, each_more}
use Rattle.type_laws.proofs.Lists.{get_before, get_last, get_inside, get_more, length_more, get_set, get_other, get_after_set}

abbrev pub numbers_in : Option ℕ → List ℕ
numbers_in (Some number) = number ∷ []
numbers_in None = []

-- the variables of file scope that the objects are
abbrev pub numbers : List Object → List ℕ
numbers [] = []
numbers (o ∷ os) = numbers_in o.variable ++ numbers os

-- an object that is the variable of this number
pub record IsObjectOf (structures : List StructInfo) (variables : List VariableInfo) (thread : Bool) (words number : ℕ) : Type 0 where
  pub info : VariableInfo
  pub known : slice_get variables number ≡ Some info
  pub kept : info.thread_local ≡ thread
  pub long : words ≡ words_of structures info.kind

abbrev pub IsObjectFor : List StructInfo → List VariableInfo → Bool → ℕ → Option ℕ → Type 0
IsObjectFor structures variables thread words (Some number) = IsObjectOf structures variables thread words number
IsObjectFor structures variables thread words None = Unit {0}

abbrev pub IsObjectIn : List StructInfo → List VariableInfo → Bool → Object → Type 0
IsObjectIn structures variables thread o = IsObjectFor structures variables thread o.words o.variable

-- objects of one kind
pub record IsRow (structures : List StructInfo) (variables : List VariableInfo) (thread : Bool) (objects : List Object) : Type 0 where
  pub each : Each (IsObjectIn structures variables thread) objects
  pub apart : IsApart (numbers objects)

abbrev pub row_for : List Object → List Object → Bool → List Object
row_for statics thread_locals true = thread_locals
row_for statics thread_locals false = statics

pub record AreObjects (structures : List StructInfo) (variables : List VariableInfo) (statics thread_locals : List Object) : Type 0 where
  pub static_row : IsRow structures variables false statics
  pub thread_row : IsRow structures variables true thread_locals
  pub among : (number : ℕ) (info : VariableInfo) → slice_get variables number ≡ Some info → IsAmongObjects (row_for statics thread_locals info.thread_local) number
  pub fewer : length variables ≤ length statics + length thread_locals

-- no number of a list is a new one
any_more : (x n : ℕ) (ns : List ℕ) → list_any (nat_eq x) ns ≡ false → nat_eq x n ≡ false → list_any (nat_eq x) (ns ++ n ∷ []) ≡ false
any_more x n [] old other = ap (λ b. b || false) other
any_more x n (m ∷ ms) old other = of (nat_eq x m) (list_any (nat_eq x) ms) (list_any (nat_eq x) (ms ++ n ∷ [])) old (λ rest. any_more x n ms rest other)
  where
    of : (test before after : Bool) → test || before ≡ false → (before ≡ false → after ≡ false) → test || after ≡ false
    of true before after e next = absurd (cc)
    of false before after e next = next e

pub apart_more : (n : ℕ) (ns : List ℕ) → IsApart ns → Each (λ m. nat_eq m n ≡ false) ns → IsApart (ns ++ n ∷ [])
apart_more n [] apart each = (refl, tt)
apart_more n (m ∷ ms) apart each = (any_more m n ms apart.0 each.0, apart_more n ms apart.1 each.1)

module _ {A : Type 0} where
  pub append_to_left : (xs ys zs : List A) → xs ++ (ys ++ zs) ≡ (xs ++ ys) ++ zs
  append_to_left [] ys zs = refl
  append_to_left (x ∷ xs) ys zs = ap (λ (rest : List A). x ∷ rest) (append_to_left xs ys zs)

  pub append_none : (xs : List A) → xs ++ [] ≡ xs
  append_none [] = refl
  append_none (x ∷ xs) = ap (λ (rest : List A). x ∷ rest) (append_none xs)

numbers_more : (os : List Object) (o : Object) → numbers (os ++ o ∷ []) ≡ numbers os ++ numbers_in o.variable
numbers_more [] o = append_none (numbers_in o.variable)
numbers_more (x ∷ xs) o =
    ap (λ (rest : List ℕ). numbers_in x.variable ++ rest) (numbers_more xs o) ∙ append_to_left (numbers_in x.variable) (numbers xs) (numbers_in o.variable)

module _ (structures : List StructInfo) (variables : List VariableInfo) (thread : Bool) where
  known_number : (words : ℕ) (v : Option ℕ) (rest : List ℕ) → IsObjectFor structures variables thread words v → Each (λ m. nat_eq m (length variables) ≡ false) rest
      → Each (λ m. nat_eq m (length variables) ≡ false) (numbers_in v ++ rest)
  known_number words (Some n) rest h each =
      (ne_eqb n (length variables) (λ same. let inside = get_inside variables n h.info h.known in omega (arith, same)), each)
  known_number words None rest h each = each

  old_numbers : (os : List Object) → Each (IsObjectIn structures variables thread) os → Each (λ m. nat_eq m (length variables) ≡ false) (numbers os)
  old_numbers [] each = tt
  old_numbers (o ∷ os) each = known_number o.words o.variable (numbers os) each.0 (old_numbers os each.1)

-- an object that is no variable
pub row_and_none : (structures : List StructInfo) (variables : List VariableInfo) (thread : Bool) (os : List Object) (at words : ℕ) → IsRow structures variables thread os
    → IsRow structures variables thread (os ++ record { at = at; words = words; variable = None } ∷ [])
row_and_none structures variables thread os at words row = record {
  each = each_more (IsObjectIn structures variables thread) os _ row.each tt;
  apart = subst IsApart (sym (append_none (numbers os)) ∙ sym (numbers_more os (record { at = at; words = words; variable = None }))) row.apart;
}

-- the variables change, and the objects stay those of them
pub row_as : (before after : List StructInfo) (old new : List VariableInfo) (thread : Bool) (os : List Object)
    → ((words number : ℕ) → IsObjectOf before old thread words number → IsObjectOf after new thread words number) → IsRow before old thread os → IsRow after new thread os
row_as before after old new thread os as_well row = record {
  each = each_as (IsObjectIn before old thread) (IsObjectIn after new thread) os (λ o h. of o.words o.variable h) row.each;
  apart = row.apart;
}
  where
    of : (words : ℕ) (v : Option ℕ) → IsObjectFor before old thread words v → IsObjectFor after new thread words v
    of words (Some n) h = as_well words n h
    of words None h = h

module _ (structures : List StructInfo) (variables : List VariableInfo) (new : VariableInfo) where
  object_before : (thread : Bool) (words number : ℕ) → IsObjectOf structures variables thread words number → IsObjectOf structures (variables ++ new ∷ []) thread words number
  object_before thread words number h = record { info = h.info; known = get_before variables new number h.info h.known; kept = h.kept; long = h.long }

  row_before : (thread : Bool) (os : List Object) → IsRow structures variables thread os → IsRow structures (variables ++ new ∷ []) thread os
  row_before thread os row = row_as structures structures variables (variables ++ new ∷ []) thread os (λ words number h. object_before thread words number h) row

  row_and_new : (thread : Bool) (os : List Object) (at words : ℕ) → new.thread_local ≡ thread → words ≡ words_of structures new.kind → IsRow structures variables thread os
      → IsRow structures (variables ++ new ∷ []) thread (os ++ record { at = at; words = words; variable = Some (length variables) } ∷ [])
  row_and_new thread os at words kept long row = record {
    each = each_more (IsObjectIn structures (variables ++ new ∷ []) thread) os _ (row_before thread os row).each
        (record { info = new; known = get_last variables new; kept = kept; long = long });
    apart = subst IsApart (sym (numbers_more os (record { at = at; words = words; variable = Some (length variables) })))
        (apart_more (length variables) (numbers os) row.apart (old_numbers structures variables thread os row.each));
  }

among_before : (os : List Object) (o : Object) (number : ℕ) → IsAmongObjects os number → IsAmongObjects (os ++ o ∷ []) number
among_before os o number h = (h.0, h.1, get_before os o h.0 h.1 h.2, h.3)

among_last : (os : List Object) (at words number : ℕ) → IsAmongObjects (os ++ record { at = at; words = words; variable = Some number } ∷ []) number
among_last os at words number =
    (length os, record { at = at; words = words; variable = Some number }, get_last os (record { at = at; words = words; variable = Some number }), refl)

among_static : (statics thread_locals : List Object) (o : Object) (thread : Bool) (number : ℕ) → IsAmongObjects (row_for statics thread_locals thread) number
    → IsAmongObjects (row_for (statics ++ o ∷ []) thread_locals thread) number
among_static statics thread_locals o true number h = h
among_static statics thread_locals o false number h = among_before statics o number h

among_thread : (statics thread_locals : List Object) (o : Object) (thread : Bool) (number : ℕ) → IsAmongObjects (row_for statics thread_locals thread) number
    → IsAmongObjects (row_for statics (thread_locals ++ o ∷ []) thread) number
among_thread statics thread_locals o true number h = among_before thread_locals o number h
among_thread statics thread_locals o false number h = h

module _ (structures : List StructInfo) (variables : List VariableInfo) (statics thread_locals : List Object) (h : AreObjects structures variables statics thread_locals) (at words : ℕ) where
  pub static_and_none : AreObjects structures variables (statics ++ record { at = at; words = words; variable = None } ∷ []) thread_locals
  static_and_none = record {
    static_row = row_and_none structures variables false statics at words h.static_row;
    thread_row = h.thread_row;
    among = λ number info known. among_static statics thread_locals (record { at = at; words = words; variable = None }) info.thread_local number (h.among number info known);
    fewer = let few = h.fewer in let more = length_more statics (record { at = at; words = words; variable = None }) in omega (arith, more);
  }

  pub thread_and_none : AreObjects structures variables statics (thread_locals ++ record { at = at; words = words; variable = None } ∷ [])
  thread_and_none = record {
    static_row = h.static_row;
    thread_row = row_and_none structures variables true thread_locals at words h.thread_row;
    among = λ number info known. among_thread statics thread_locals (record { at = at; words = words; variable = None }) info.thread_local number (h.among number info known);
    fewer = let few = h.fewer in let more = length_more thread_locals (record { at = at; words = words; variable = None }) in omega (arith, more);
  }

  -- the object of a new variable
  module _ (new : VariableInfo) (long : words ≡ words_of structures new.kind) where
    abbrev own : Object
    own = record { at = at; words = words; variable = Some (length variables) }

    pub static_and_new : new.thread_local ≡ false → AreObjects structures (variables ++ new ∷ []) (statics ++ own ∷ []) thread_locals
    static_and_new kept = record {
      static_row = row_and_new structures variables new false statics at words kept long h.static_row;
      thread_row = row_before structures variables new true thread_locals h.thread_row;
      among = λ number info known. of number info (get_more variables new number info known);
      fewer = let few = h.fewer in let more = length_more statics own in let again = length_more variables new in omega (arith, more, again);
    }
      where
        of : (number : ℕ) (info : VariableInfo) → (slice_get variables number ≡ Some info) ⊎ ((number ≡ length variables) × (new ≡ info))
            → IsAmongObjects (row_for (statics ++ own ∷ []) thread_locals info.thread_local) number
        of number info (inl e) = among_static statics thread_locals own info.thread_local number (h.among number info e)
        of number info (inr e) =
            subst (λ (thread : Bool). IsAmongObjects (row_for (statics ++ own ∷ []) thread_locals thread) number) (sym kept ∙ ap (λ (v : VariableInfo). v.thread_local) e.1)
            (subst (λ (n : ℕ). IsAmongObjects (statics ++ own ∷ []) n) (sym e.0) (among_last statics at words (length variables)))

    pub thread_and_new : new.thread_local ≡ true → AreObjects structures (variables ++ new ∷ []) statics (thread_locals ++ own ∷ [])
    thread_and_new kept = record {
      static_row = row_before structures variables new false statics h.static_row;
      thread_row = row_and_new structures variables new true thread_locals at words kept long h.thread_row;
      among = λ number info known. of number info (get_more variables new number info known);
      fewer = let few = h.fewer in let more = length_more thread_locals own in let again = length_more variables new in omega (arith, more, again);
    }
      where
        of : (number : ℕ) (info : VariableInfo) → (slice_get variables number ≡ Some info) ⊎ ((number ≡ length variables) × (new ≡ info))
            → IsAmongObjects (row_for statics (thread_locals ++ own ∷ []) info.thread_local) number
        of number info (inl e) = among_thread statics thread_locals own info.thread_local number (h.among number info e)
        of number info (inr e) =
            subst (λ (thread : Bool). IsAmongObjects (row_for statics (thread_locals ++ own ∷ []) thread) number) (sym kept ∙ ap (λ (v : VariableInfo). v.thread_local) e.1)
            (subst (λ (n : ℕ). IsAmongObjects (thread_locals ++ own ∷ []) n) (sym e.0) (among_last thread_locals at words (length variables)))

-- structures change, and the words of each variable stay
pub objects_stay : (before after : List StructInfo) (variables : List VariableInfo) (statics thread_locals : List Object)
    → ((number : ℕ) (info : VariableInfo) → slice_get variables number ≡ Some info → words_of after info.kind ≡ words_of before info.kind)
    → AreObjects before variables statics thread_locals → AreObjects after variables statics thread_locals
objects_stay before after variables statics thread_locals same h = record {
  static_row = row_as before after variables variables false statics (λ words number o. moved false words number o) h.static_row;
  thread_row = row_as before after variables variables true thread_locals (λ words number o. moved true words number o) h.thread_row;
  among = h.among;
  fewer = h.fewer;
}
  where
    moved : (thread : Bool) (words number : ℕ) → IsObjectOf before variables thread words number → IsObjectOf after variables thread words number
    moved thread words number o = record { info = o.info; known = o.known; kept = o.kept; long = o.long ∙ sym (same number o.info o.known) }

-- a variable is declared again
pub objects_changed : (structures : List StructInfo) (variables : List VariableInfo) (statics thread_locals : List Object) (n : ℕ) (info new : VariableInfo)
    → slice_get variables n ≡ Some info → new.kind ≡ info.kind → new.thread_local ≡ info.thread_local
    → AreObjects structures variables statics thread_locals → AreObjects structures (slice_set variables n new) statics thread_locals
objects_changed structures variables statics thread_locals n info new known kind thread_local h = record {
  static_row = row_as structures structures variables (slice_set variables n new) false statics (λ words number o. moved false words number o) h.static_row;
  thread_row = row_as structures structures variables (slice_set variables n new) true thread_locals (λ words number o. moved true words number o) h.thread_row;
  among = λ number other there. still number other (get_after_set variables n new number other (get_inside variables n info known) there);
  fewer = let few = h.fewer in let same = length-set variables n new in omega (arith, same);
}
  where
    moved : (thread : Bool) (words number : ℕ) → IsObjectOf structures variables thread words number → IsObjectOf structures (slice_set variables n new) thread words number
    moved thread words number o = of (nat_eq number n) refl
      where
        of : (test : Bool) → nat_eq number n ≡ test → IsObjectOf structures (slice_set variables n new) thread words number
        of true e =
            let at : number ≡ n = eqb-true number n e in
            let same : Some o.info ≡ Some info = sym o.known ∙ ap (slice_get variables) at ∙ known in
            let one : o.info ≡ info = cc in
            record {
              info = new;
              known = ap (slice_get (slice_set variables n new)) at ∙ get_set variables n new (get_inside variables n info known);
              kept = thread_local ∙ ap (λ (v : VariableInfo). v.thread_local) (sym one) ∙ o.kept;
              long = o.long ∙ ap (λ (v : VariableInfo). words_of structures v.kind) one ∙ ap (words_of structures) (sym kind);
            }
        of false e = record { info = o.info; known = get_other variables n new number (eqb-false number n e) ∙ o.known; kept = o.kept; long = o.long }

    still : (number : ℕ) (other : VariableInfo) → ((number ≡ n) × (new ≡ other)) ⊎ ((number ≡ n → ⊥) × (slice_get variables number ≡ Some other))
        → IsAmongObjects (row_for statics thread_locals other.thread_local) number
    still number other (inl e) =
        subst (λ (thread : Bool). IsAmongObjects (row_for statics thread_locals thread) number) (sym thread_local ∙ ap (λ (v : VariableInfo). v.thread_local) e.1)
        (subst (λ (m : ℕ). IsAmongObjects (row_for statics thread_locals info.thread_local) m) (sym e.0) (h.among n info known))
    still number other (inr e) = h.among number other e.1
