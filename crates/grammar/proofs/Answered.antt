-- What the parser answers is so: what it gives is a reading, what stands before a refused token is an
-- unfinished one, and where it blames the depth a greater one would do.
use Rattle.std.proofs.Common.{◌≡◌, ℕ, zero, suc, ◌≤◌, max, Bool, true, false, cond, leb, List, [], ◌∷◌, ◌++◌, inl, inr, refl, sym, ap, ◌∙◌, subst, append_assoc, zero-le, leb-true, arith}
use Rattle.grammar.specs.Parts.{Parts, Return, Take, Call, Either, Production, Plain, Node, Chain, Grammar}
use Rattle.grammar.specs.Reading.{PartsRead, PartsBegun, WholeRead, BegunBy, IsRead, IsViable}
use Rattle.grammar.specs.Parser.{Lookahead, Outcome, Got, Bad, Entry, New, Past, begins, starts, run, after, deepen, one_more, advance, produce, go_on, parse_within}
use Rattle.grammar.specs.LL1.{Ranked, IsLL1Production, IsLL1}
use Rattle.grammar.proofs.Up.{Reader, Beginner, parts_read_up, parts_begun_up}
use Rattle.grammar.proofs.Closed.{chain_read, chain_begun, is_read_up, is_viable_up, viable_nil, read_viable, read_intro, begun_intro}
use Rattle.grammar.proofs.First.{parts_viable}

pub joined : {A : Type 0} (all front back c rest : List A) → all ≡ front ++ back → back ≡ c ++ rest → all ≡ (front ++ c) ++ rest
joined all front back c rest g p = g ∙ ap (λ w. front ++ w) p ∙ sym (append_assoc front c rest)

-- where depth alone is at fault, the refused token has an unfinished reading at some depth; it is never so at the end
abbrev pub TooDeep : {T : Type 0} → (List T → Type 0) → Bool → List T → List T → Type 0
TooDeep E false c rest = Unit {0}
TooDeep E true c [] = ⊥
TooDeep E true c (t ∷ rest) = E (c ++ (t ∷ []))

-- What an answer says of all the tokens: W of what was read at its depth, F of what was begun, E of what a greater depth would begin.
abbrev pub Answered : {T A : Type 0} → (ℕ → List T → A → Type 0) → (List T → Type 0) → (List T → Type 0) → ℕ → List T → Outcome T A → Type 0
Answered {T} W F E room all (Got x d rest) = (c : List T) × (all ≡ c ++ rest) × W d c x × (d ≤ room)
Answered {T} W F E room all (Bad deep rest) = (c : List T) × (all ≡ c ++ rest) × F c × TooDeep E deep c rest

-- an answer about the same tokens in other words
answered_map : {T A : Type 0} (W W' : ℕ → List T → A → Type 0) (F F' E E' : List T → Type 0)
    → ((d : ℕ) (c : List T) (x : A) → W d c x → W' d c x) → ((c : List T) → F c → F' c) → ((c : List T) → E c → E' c)
    → (room : ℕ) (all : List T) (o : Outcome T A) → Answered W F E room all o → Answered W' F' E' room all o
answered_map W W' F F' E E' w f e room all (Got x d rest) (c, p, q, l) = (c, p, w d c x q, l)
answered_map W W' F F' E E' w f e room all (Bad false rest) (c, p, q, l) = (c, p, f c q, tt)
answered_map W W' F F' E E' w f e room all (Bad true []) (c, p, q, l) = absurd l
answered_map W W' F F' E E' w f e room all (Bad true (t ∷ rest)) (c, p, q, l) = (c, p, f c q, e (c ++ (t ∷ [])) l)

-- an answer about what follows a part that was read
answered_behind : {T A B : Type 0} (W : ℕ → List T → A → Type 0) (W' : ℕ → List T → B → Type 0) (F F' E E' : List T → Type 0)
    → (front : List T) → ((c : List T) → F c → F' (front ++ c)) → ((c : List T) → E c → E' (front ++ c))
    → (room : ℕ) (all back : List T) → all ≡ front ++ back → (deep : Bool) (rest : List T)
    → Answered {A = A} W F E room back (Bad deep rest) → Answered {A = B} W' F' E' room all (Bad deep rest)
answered_behind W W' F F' E E' front f e room all back g false rest (c, p, q, l) = (front ++ c, joined all front back c rest g p, f c q, tt)
answered_behind W W' F F' E E' front f e room all back g true [] (c, p, q, l) = absurd l
answered_behind W W' F F' E E' front f e room all back g true (t ∷ rest) (c, p, q, l) =
    (front ++ c, joined all front back c (t ∷ rest) g p, f c q, subst E' (sym (append_assoc front c (t ∷ []))) (e (c ++ (t ∷ [])) l))

module _ {T N : Type 0} {V : N → Type 0} (lookahead : Lookahead T N V) where
  -- the same of the parts of a production
  abbrev pub PartsAnswered : {A : Type 0} → (R : ℕ → Reader T N V) (B : ℕ → Beginner T N) → ℕ → Parts T N V A → List T → Outcome T A → Type 0
  PartsAnswered {A} R B room g ts o =
      Answered {T = T} {A = A} (λ d c x. PartsRead (R d) g c x) (λ c. PartsBegun (R room) (B room) g c)
      (λ c. (q : ℕ) × PartsBegun (R q) (B q) g c) room ts o

  answered_take : {A : Type 0} (R : ℕ → Reader T N V) (B : ℕ → Beginner T N) (room : ℕ) (p : T → Bool) (k : T → Parts T N V A)
      (t : T) (ts : List T) (o : Outcome T A) → p t ≡ true → PartsAnswered R B room (k t) ts o → PartsAnswered R B room (Take p k) (t ∷ ts) o
  answered_take R B room p k t ts (Got x d rest) e (c, q, w, l) = (t ∷ c, ap (λ w. t ∷ w) q, (e, w), l)
  answered_take R B room p k t ts (Bad false rest) e (c, q, f, l) = (t ∷ c, ap (λ w. t ∷ w) q, (e, f), tt)
  answered_take R B room p k t ts (Bad true []) e (c, q, f, l) = absurd l
  answered_take R B room p k t ts (Bad true (s ∷ rest)) e (c, q, f, l) = (t ∷ c, ap (λ w. t ∷ w) q, (e, f), (l.0, (e, l.1)))

  answered_call : {A : Type 0} (R : ℕ → Reader T N V) (B : ℕ → Beginner T N)
      → ((r s : ℕ) (n : N) (ts : List T) (x : V n) → r ≤ s → R r n ts x → R s n ts x)
      → ((r s : ℕ) (n : N) (ts : List T) → r ≤ s → B r n ts → B s n ts)
      → (room : ℕ) (n : N) (k : V n → Parts T N V A) (all front back : List T) → all ≡ front ++ back
      → (a : V n) (d : ℕ) → R d n front a → d ≤ room → (o : Outcome T A)
      → PartsAnswered R B room (k a) back o → PartsAnswered R B room (Call n k) all (deepen d o)
  answered_call R B up upb room n k all front back g a d r l (Got x e rest) (c, q, w, m) =
      let one : d ≤ max d e = omega arith in
      let other : e ≤ max d e = omega arith in
      let both : max d e ≤ room = omega arith in (
        front ++ c,
        joined all front back c rest g q,
        (
          front,
          c,
          a,
          refl,
          up d (max d e) n front a one r,
          parts_read_up (R e) (R (max d e)) (λ i us y. up e (max d e) i us y other) (k a) c x w,
        ),
        both,
      )
  answered_call {A} R B up upb room n k all front back g a d r l (Bad deep rest) h =
      answered_behind {T = T} {A = A} {B = A} (λ d c x. PartsRead (R d) (k a) c x) (λ d c x. PartsRead (R d) (Call n k) c x)
      (λ c. PartsBegun (R room) (B room) (k a) c) (λ c. PartsBegun (R room) (B room) (Call n k) c)
      (λ c. (q : ℕ) × PartsBegun (R q) (B q) (k a) c) (λ c. (q : ℕ) × PartsBegun (R q) (B q) (Call n k) c)
      front (λ c f. inr (front, c, a, refl, up d room n front a l r, f))
      (λ c f.
      let one : d ≤ max d f.0 = omega arith in
      let other : f.0 ≤ max d f.0 = omega arith in (
        max d f.0,
        inr (
          front,
          c,
          a,
          refl,
          up d (max d f.0) n front a one r,
          parts_begun_up (R f.0) (R (max d f.0)) (B f.0) (B (max d f.0)) (λ i us y. up f.0 (max d f.0) i us y other)
              (λ i us. upb f.0 (max d f.0) i us other) (k a) c f.1,
        ),
      ))
      room all back g deep rest h

  pub answered_run : {A : Type 0} (R : ℕ → Reader T N V) (B : ℕ → Beginner T N)
      → ((r s : ℕ) (n : N) (ts : List T) (x : V n) → r ≤ s → R r n ts x → R s n ts x)
      → ((r s : ℕ) (n : N) (ts : List T) → r ≤ s → B r n ts → B s n ts)
      → (room : ℕ) (P : (n : N) → List T → Outcome T (V n))
      → ((n : N) (ts : List T) → Answered (λ d c x. R d n c x) (λ c. B room n c) (λ c. (q : ℕ) × B q n c) room ts (P n ts))
      → (g : Parts T N V A) (ts : List T) → PartsAnswered R B room g ts (run lookahead P g ts)
  answered_run R B up upb room P tp (Return y) ts = ([], refl, (refl, refl), zero-le)
  answered_run R B up upb room P tp (Take p k) [] = ([], refl, tt, tt)
  answered_run R B up upb room P tp (Take p k) (t ∷ ts) = go (p t) refl (answered_run R B up upb room P tp (k t) ts)
    where
      go : (b : Bool) → p t ≡ b → PartsAnswered R B room (k t) ts (run lookahead P (k t) ts)
          → PartsAnswered R B room (Take p k) (t ∷ ts) (cond b (run lookahead P (k t) ts) (Bad false (t ∷ ts)))
      go true e h = answered_take R B room p k t ts (run lookahead P (k t) ts) e h
      go false e h = ([], refl, tt, tt)
  answered_run {A} R B up upb room P tp (Call n k) ts = go (P n ts) (tp n ts) (λ a us. answered_run R B up upb room P tp (k a) us)
    where
      go : (o : Outcome T (V n)) → Answered (λ d c x. R d n c x) (λ c. B room n c) (λ c. (q : ℕ) × B q n c) room ts o
          → ((a : V n) (us : List T) → PartsAnswered R B room (k a) us (run lookahead P (k a) us))
          → PartsAnswered R B room (Call n k) ts (after (λ a depth left. deepen depth (run lookahead P (k a) left)) o)
      go (Got a d rest) (c, q, w, l) rec = answered_call R B up upb room n k ts c rest q a d w l (run lookahead P (k a) rest) (rec a rest)
      go (Bad deep rest) h rec =
          answered_behind {T = T} {A = V n} {B = A} (λ d c x. R d n c x) (λ d c x. PartsRead (R d) (Call n k) c x)
          (λ c. B room n c) (λ c. PartsBegun (R room) (B room) (Call n k) c)
          (λ c. (q : ℕ) × B q n c) (λ c. (q : ℕ) × PartsBegun (R q) (B q) (Call n k) c)
          [] (λ c f. inl f) (λ c f. (f.0, inl f.1)) room ts ts refl deep rest h
  answered_run {A} R B up upb room P tp (Either g h) ts =
      go (starts lookahead g ts) (answered_run R B up upb room P tp g ts) (answered_run R B up upb room P tp h ts)
    where
      go : (b : Bool) → PartsAnswered R B room g ts (run lookahead P g ts) → PartsAnswered R B room h ts (run lookahead P h ts)
          → PartsAnswered R B room (Either g h) ts (cond b (run lookahead P g ts) (run lookahead P h ts))
      go true one two =
          answered_map (λ d c x. PartsRead (R d) g c x) (λ d c x. PartsRead (R d) (Either g h) c x)
          (λ c. PartsBegun (R room) (B room) g c) (λ c. PartsBegun (R room) (B room) (Either g h) c)
          (λ c. (q : ℕ) × PartsBegun (R q) (B q) g c) (λ c. (q : ℕ) × PartsBegun (R q) (B q) (Either g h) c)
          (λ d c x w. inl w) (λ c f. inl f) (λ c f. (f.0, inl f.1)) room ts (run lookahead P g ts) one
      go false one two =
          answered_map (λ d c x. PartsRead (R d) h c x) (λ d c x. PartsRead (R d) (Either g h) c x)
          (λ c. PartsBegun (R room) (B room) h c) (λ c. PartsBegun (R room) (B room) (Either g h) c)
          (λ c. (q : ℕ) × PartsBegun (R q) (B q) h c) (λ c. (q : ℕ) × PartsBegun (R q) (B q) (Either g h) c)
          (λ d c x w. inr w) (λ c f. inr f) (λ c f. (f.0, inr f.1)) room ts (run lookahead P h ts) two

-- one production, whose readings are S, which has begun what F tells
module _ {T N : Type 0} {V : N → Type 0} (lookahead : Lookahead T N V) (R : ℕ → Reader T N V) (B : ℕ → Beginner T N)
    (up : (r s : ℕ) (m : N) (ts : List T) (x : V m) → r ≤ s → R r m ts x → R s m ts x)
    (upb : (r s : ℕ) (m : N) (ts : List T) → r ≤ s → B r m ts → B s m ts)
    (n : N) (S : ℕ → List T → V n → Type 0) (F : ℕ → List T → Type 0)
    (ups : (r s : ℕ) (ts : List T) (x : V n) → r ≤ s → S r ts x → S s ts x)
    (whole_is_begun : (r : ℕ) (ts : List T) (x : V n) → S r ts x → F r ts)
    (none_is_begun : (r : ℕ) → F r [])
    (viable : (g : Parts T N V (V n)) → Ranked lookahead (lookahead.rank n) g → (t : T) → begins lookahead g t ≡ true
    → (r : ℕ) × PartsBegun (R r) (B r) g (t ∷ []))
    (P : ℕ → (m : N) → List T → Outcome T (V m)) (here : V n → ℕ → List T → Outcome T (V n))
    (tp : (r : ℕ) (m : N) (ts : List T) → Answered (λ d c x. R d m c x) (λ c. B r m c) (λ c. (q : ℕ) × B q m c) r ts (P r m ts)) where
  abbrev Said : ℕ → List T → Outcome T (V n) → Type 0
  Said room all o = Answered {T = T} {A = V n} S (F room) (λ c. (q : ℕ) × F q c) room all o

  abbrev HereSaid : ℕ → Type 0
  HereSaid room = (x : V n) (d : ℕ) (u ts : List T) → S d u x → d ≤ room → Said room (u ++ ts) (here x d ts)

  answered_node : (g : Parts T N V (V n))
      → ((r : ℕ) (ts : List T) (x : V n) → WholeRead R S (Node g) r ts x → S r ts x)
      → ((r : ℕ) (ts : List T) → BegunBy R S B (Node g) r ts → F r ts)
      → (room : ℕ) (ts : List T) (o : Outcome T (V n)) → PartsAnswered lookahead R B room g ts o → Said (suc room) ts (one_more o)
  answered_node g intro begun room ts (Got x d rest) (c, q, w, l) = let le : suc d ≤ suc room = omega arith in (c, q, intro (suc d) c x w, le)
  answered_node g intro begun room ts (Bad false rest) (c, q, f, l) = (c, q, begun (suc room) c f, tt)
  answered_node g intro begun room ts (Bad true []) (c, q, f, l) = absurd l
  answered_node g intro begun room ts (Bad true (t ∷ rest)) (c, q, f, l) =
      (c, q, begun (suc room) c f, (suc l.0, begun (suc l.0) (c ++ (t ∷ [])) l.1))

  answered_start : (b : Parts T N V (V n)) (step : V n → Parts T N V (V n))
      → ((r : ℕ) (ts : List T) (x : V n) → WholeRead R S (Chain b step) r ts x → S r ts x)
      → ((r : ℕ) (ts : List T) → BegunBy R S B (Chain b step) r ts → F r ts)
      → (room : ℕ) → HereSaid room → (ts : List T) (o : Outcome T (V n)) → PartsAnswered lookahead R B room b ts o → Said room ts (after here o)
  answered_start b step intro begun room th ts (Got x d rest) (c, q, w, l) =
      subst (λ all. Said room all (here x d rest)) (sym q) (th x d c rest (intro d c x (chain_read R S b step d c x w)) l)
  answered_start b step intro begun room th ts (Bad deep rest) h =
      answered_map (λ d c x. PartsRead (R d) b c x) S (λ c. PartsBegun (R room) (B room) b c) (F room)
      (λ c. (q : ℕ) × PartsBegun (R q) (B q) b c) (λ c. (q : ℕ) × F q c)
      (λ d c x w. intro d c x (chain_read R S b step d c x w)) (λ c f. begun room c (chain_begun R S B b step room c f))
      (λ c f. (f.0, begun f.0 c (chain_begun R S B b step f.0 c f.1)))
      room ts (Bad deep rest) h

  pub answered_produce : (p : Production T N V (V n)) → IsLL1Production lookahead n p
      → ((r : ℕ) (ts : List T) (x : V n) → WholeRead R S p r ts x → S r ts x)
      → ((r : ℕ) (ts : List T) → BegunBy R S B p r ts → F r ts)
      → (room : ℕ) → HereSaid room → (ts : List T) → Said room ts (produce lookahead P here p room ts)
  answered_produce (Plain g) f intro begun room th ts =
      answered_map (λ d c x. PartsRead (R d) g c x) S (λ c. PartsBegun (R room) (B room) g c) (F room)
      (λ c. (q : ℕ) × PartsBegun (R q) (B q) g c) (λ c. (q : ℕ) × F q c)
      (λ d c x w. intro d c x w) (λ c h. begun room c h) (λ c h. (h.0, begun h.0 c h.1))
      room ts (run lookahead (P room) g ts) (answered_run lookahead R B up upb room (P room) (tp room) g ts)
  answered_produce (Node g) f intro begun zero th [] = ([], refl, none_is_begun zero, tt)
  answered_produce (Node g) f intro begun zero th (t ∷ ts) = go (begins lookahead g t) refl
    where
      go : (b : Bool) → begins lookahead g t ≡ b → Said zero (t ∷ ts) (Bad b (t ∷ ts))
      go false e = ([], refl, none_is_begun zero, tt)
      go true e = let h = viable g f.3 t e in ([], refl, none_is_begun zero, (suc h.0, begun (suc h.0) (t ∷ []) h.1))
  answered_produce (Node g) f intro begun (suc room) th ts =
      answered_node g intro begun room ts (run lookahead (P room) g ts) (answered_run lookahead R B up upb room (P room) (tp room) g ts)
  answered_produce (Chain b step) f intro begun room th ts =
      answered_start b step intro begun room th ts (run lookahead (P room) b ts) (answered_run lookahead R B up upb room (P room) (tp room) b ts)

  -- the next token begins a step for which there is no room
  no_room : (b : Parts T N V (V n)) (step : V n → Parts T N V (V n)) → IsLL1Production lookahead n (Chain b step)
      → ((r : ℕ) (ts : List T) → BegunBy R S B (Chain b step) r ts → F r ts)
      → (room : ℕ) (x : V n) (d : ℕ) (u ts : List T) → S d u x → d ≤ room → starts lookahead (step x) ts ≡ true → Said room (u ++ ts) (Bad true ts)
  no_room b step f begun room x d u [] s l e = let clash : ⊥ = cc in absurd clash
  no_room b step f begun room x d u (t ∷ ts) s l e =
      let h = viable (step x) (f.5 x) t e in
      let one : d ≤ max d h.0 = omega arith in
      let other : h.0 ≤ max d h.0 = omega arith in (
        u,
        refl,
        whole_is_begun room u x (ups d room u x l s),
        (
          suc (max d h.0),
          begun (suc (max d h.0)) (u ++ (t ∷ []))
              (inr (
                u,
                t ∷ [],
                x,
                refl,
                ups d (max d h.0) u x one s,
                parts_begun_up (R h.0) (R (max d h.0)) (B h.0) (B (max d h.0)) (λ i us y. up h.0 (max d h.0) i us y other)
                    (λ i us. upb h.0 (max d h.0) i us other) (step x) (t ∷ []) h.1,
              )),
        ),
      )

  answered_step : (b : Parts T N V (V n)) (step : V n → Parts T N V (V n))
      → ((r : ℕ) (ts : List T) (x : V n) → WholeRead R S (Chain b step) r ts x → S r ts x)
      → ((r : ℕ) (ts : List T) → BegunBy R S B (Chain b step) r ts → F r ts)
      → (room : ℕ) → HereSaid (suc room) → (x : V n) (d : ℕ) (u ts : List T) → S d u x → d ≤ room
      → (o : Outcome T (V n)) → PartsAnswered lookahead R B room (step x) ts o
      → Said (suc room) (u ++ ts) (after (λ y deeper left. here y (suc (max d deeper)) left) o)
  answered_step b step intro begun room th x d u ts s l (Got y e rest) (c, q, w, m) =
      let one : d ≤ max d e = omega arith in
      let other : e ≤ max d e = omega arith in
      let le : suc (max d e) ≤ suc room = omega arith in
      subst (λ all. Said (suc room) all (here y (suc (max d e)) rest)) (sym (joined (u ++ ts) u ts c rest refl q))
      (th y (suc (max d e)) (u ++ c) rest
      (intro (suc (max d e)) (u ++ c) y
      (inr (
        u,
        c,
        x,
        refl,
        ups d (max d e) u x one s,
        parts_read_up (R e) (R (max d e)) (λ i us z. up e (max d e) i us z other) (step x) c y w,
      )))
      le)
  answered_step b step intro begun room th x d u ts s l (Bad deep rest) h =
      answered_behind {T = T} {A = V n} {B = V n} (λ d c y. PartsRead (R d) (step x) c y) S
      (λ c. PartsBegun (R room) (B room) (step x) c) (F (suc room))
      (λ c. (q : ℕ) × PartsBegun (R q) (B q) (step x) c) (λ c. (q : ℕ) × F q c)
      u (λ c f. begun (suc room) (u ++ c) (inr (u, c, x, refl, ups d room u x l s, f)))
      (λ c f.
      let one : d ≤ max d f.0 = omega arith in
      let other : f.0 ≤ max d f.0 = omega arith in (
        suc (max d f.0),
        begun (suc (max d f.0)) (u ++ c)
            (inr (
              u,
              c,
              x,
              refl,
              ups d (max d f.0) u x one s,
              parts_begun_up (R f.0) (R (max d f.0)) (B f.0) (B (max d f.0)) (λ i us y. up f.0 (max d f.0) i us y other)
                  (λ i us. upb f.0 (max d f.0) i us other) (step x) c f.1,
            )),
      ))
      (suc room) (u ++ ts) ts refl deep rest h

  pub answered_go_on : (p : Production T N V (V n)) → IsLL1Production lookahead n p
      → ((r : ℕ) (ts : List T) (x : V n) → WholeRead R S p r ts x → S r ts x)
      → ((r : ℕ) (ts : List T) → BegunBy R S B p r ts → F r ts)
      → (room : ℕ) → HereSaid room → (x : V n) (d : ℕ) (u ts : List T) → S d u x → d ≤ room
      → Said room (u ++ ts) (go_on lookahead P here p room x d ts)
  answered_go_on (Plain g) f intro begun room th x d u ts s l = (u, refl, s, l)
  answered_go_on (Node g) f intro begun room th x d u ts s l = (u, refl, s, l)
  answered_go_on (Chain b step) f intro begun room th x d u ts s l = go room (starts lookahead (step x) ts) refl th l
    where
      fitting : (room : ℕ) (w : Bool) → leb d room ≡ w → starts lookahead (step x) ts ≡ true → HereSaid (suc room) → d ≤ suc room
          → Said (suc room) (u ++ ts)
          (cond w (after (λ y deeper left. here y (suc (max d deeper)) left) (run lookahead (P room) (step x) ts)) (Bad true ts))
      fitting room true q e th l =
          answered_step b step intro begun room th x d u ts s (leb-true d room q) (run lookahead (P room) (step x) ts)
          (answered_run lookahead R B up upb room (P room) (tp room) (step x) ts)
      fitting room false q e th l = no_room b step f begun (suc room) x d u ts s l e

      go : (room : ℕ) (w : Bool) → starts lookahead (step x) ts ≡ w → HereSaid room → d ≤ room
          → Said room (u ++ ts) (cond w (advance lookahead P here (step x) room d ts) (Got x d ts))
      go room false e th l = (u, refl, s, l)
      go zero true e th l = no_room b step f begun zero x d u ts s l e
      go (suc room) true e th l = fitting room (leb d room) refl e th l

module _ (gr : Grammar) where
  -- the answer about a name, from its beginning or after what was read so far
  abbrev pub NameAnswered : ℕ → (n : gr.Name) → List gr.Token → Outcome gr.Token (gr.Value n) → Type 0
  NameAnswered room n all o =
      Answered {T = gr.Token} {A = gr.Value n} (λ d c x. IsRead gr d n c x) (λ c. IsViable gr room n c) (λ c. (q : ℕ) × IsViable gr q n c) room all o

  abbrev pub PlaceAnswered : ℕ → (n : gr.Name) → Entry (gr.Value n) → List gr.Token → Outcome gr.Token (gr.Value n) → Type 0
  PlaceAnswered room n New ts o = NameAnswered room n ts o
  PlaceAnswered room n (Past x d) ts o = (u : List gr.Token) → IsRead gr d n u x → d ≤ room → NameAnswered room n (u ++ ts) o

module _ (gr : Grammar) (lookahead : Lookahead gr.Token gr.Name gr.Value) (fits : IsLL1 gr lookahead) where
  pub answered_within : (steps room : ℕ) (n : gr.Name) (e : Entry (gr.Value n)) (ts : List gr.Token)
      → PlaceAnswered gr room n e ts (parse_within gr lookahead steps room n e ts)
  answered_within zero room n New ts = ([], refl, viable_nil gr room n, tt)
  answered_within zero room n (Past x d) ts = λ u s l. (u, refl, read_viable gr room n u x (is_read_up gr d room n u x l s), tt)
  answered_within (suc steps) room n New ts =
      answered_produce lookahead (λ w m us y. IsRead gr w m us y) (λ w m us. IsViable gr w m us)
      (λ v w m us y. is_read_up gr v w m us y) (λ v w m us. is_viable_up gr v w m us)
      n (λ w us y. IsRead gr w n us y) (λ w us. IsViable gr w n us)
      (λ v w us y. is_read_up gr v w n us y) (λ w us y. read_viable gr w n us y) (λ w. viable_nil gr w n)
      (λ g. parts_viable gr lookahead fits (lookahead.rank n) g)
      (λ w m us. parse_within gr lookahead steps w m New us) (λ y depth left. parse_within gr lookahead steps room n (Past y depth) left)
      (λ w m us. answered_within steps w m New us)
      (gr.production n) (fits n).1 (λ w us y. read_intro gr n w us y) (λ w us. begun_intro gr n w us)
      room (λ y depth u us s l. answered_within steps room n (Past y depth) us u s l) ts
  answered_within (suc steps) room n (Past x d) ts = λ u s l.
      answered_go_on lookahead (λ w m us y. IsRead gr w m us y) (λ w m us. IsViable gr w m us)
      (λ v w m us y. is_read_up gr v w m us y) (λ v w m us. is_viable_up gr v w m us)
      n (λ w us y. IsRead gr w n us y) (λ w us. IsViable gr w n us)
      (λ v w us y. is_read_up gr v w n us y) (λ w us y. read_viable gr w n us y) (λ w. viable_nil gr w n)
      (λ g. parts_viable gr lookahead fits (lookahead.rank n) g)
      (λ w m us. parse_within gr lookahead steps w m New us) (λ y depth left. parse_within gr lookahead steps room n (Past y depth) left)
      (λ w m us. answered_within steps w m New us)
      (gr.production n) (fits n).1 (λ w us y. read_intro gr n w us y) (λ w us. begun_intro gr n w us)
      room (λ y depth u us s l. answered_within steps room n (Past y depth) us u s l) x d u ts s l
