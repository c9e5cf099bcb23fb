-- The theorem, once for every grammar that its lookahead fit: what the parser gives is a reading, every reading
-- is given, and what it refuses is exactly the refused token.
use Rattle.std.proofs.Common.{◌≡◌, ℕ, ◌≤◌, max, Bool, true, false, List, [], ◌∷◌, ◌++◌, ◌⊎◌, ◌↔◌, inl, inr, refl, sym, ap, ap₂, ◌∙◌, subst, append_assoc, append-nil, arith}
use Rattle.grammar.specs.Parts.{Grammar}
use Rattle.grammar.specs.Reading.{IsRead, IsViable, IsRefused, HasFault}
use Rattle.grammar.specs.Parser.{Lookahead, Outcome, Got, Bad, New, finish, parse, parse_all}
use Rattle.grammar.specs.LL1.{IsLL1}
use Rattle.grammar.proofs.Lists.{split_append}
use Rattle.grammar.proofs.Closed.{is_read_up, read_viable}
use Rattle.grammar.proofs.Answered.{NameAnswered, TooDeep}
use Rattle.grammar.proofs.Step.{told}
use Rattle.grammar.proofs.Hit.{Hits, hit}
use Rattle.grammar.proofs.Prefix.{viable_prefix}
use Rattle.grammar.proofs.Pass.{Passes, pass}

-- two answers to one question
same_answer : {X : Type 0} (b c : Bool) → (b ≡ true) ↔ X → (c ≡ true) ↔ X → b ≡ c
same_answer true c h k = sym (k.1 (h.0 refl))
same_answer false true h k = h.1 (k.0 refl)
same_answer false false h k = refl

same_value : {T A : Type 0} (v w : A) (d e : ℕ) (rest : List T) → Got v d rest ≡ Got w e rest → v ≡ w
same_value v w d e rest f = cc

module _ (gr : Grammar) where
  same_deep : (r : ℕ) (n : gr.Name) (b c : Bool) (before rest : List gr.Token)
      → IsRefused gr r n b before rest → IsRefused gr r n c before rest → b ≡ c
  same_deep r n b c before [] h k = same_answer b c h.1 k.1
  same_deep r n b c before (t ∷ rest) h k = same_answer b c h.1 k.1

  -- what stands before one fault is not longer than what stands before another
  no_longer : (r : ℕ) (n : gr.Name) (b : Bool) (before rest after : List gr.Token) (t : gr.Token) (w s : List gr.Token)
      → IsRefused gr r n b before rest → ((one other : List gr.Token) → after ≡ one ++ other → IsViable gr r n one)
      → after ≡ before ++ (t ∷ w) → rest ≡ t ∷ s → ⊥
  no_longer r n b before rest after t w s h pre e f =
      let refused : IsRefused gr r n b before (t ∷ s) = subst (λ us. IsRefused gr r n b before us) f h in
      refused.0 (pre (before ++ (t ∷ [])) w (e ∙ sym (append_assoc before (t ∷ []) w)))

  -- there is one fault
  pub same_fault : (r : ℕ) (n : gr.Name) (ts : List gr.Token) (b c : Bool) (s u : List gr.Token)
      → HasFault gr r n ts b s → HasFault gr r n ts c u → (b ≡ c) × (s ≡ u)
  same_fault r n ts b c s u (x, p, h, f) (y, q, k, g) = go (split_append x s y u (sym p ∙ q))
    where
      go : ((e : List gr.Token) × (y ≡ x ++ e) × (s ≡ e ++ u)) ⊎ ((e : List gr.Token) × (x ≡ y ++ e) × (u ≡ e ++ s)) → (b ≡ c) × (s ≡ u)
      go (inl ([], i, j)) =
          let same : y ≡ x = i ∙ append-nil x in
          let k' : IsRefused gr r n c x s = subst (λ v. IsRefused gr r n c v s) same (subst (λ v. IsRefused gr r n c y v) (sym j) k) in
          (same_deep r n b c x s h k', j)
      go (inl (t ∷ w, i, j)) = absurd (no_longer r n b x s y t w (w ++ u) h g i j)
      go (inr ([], i, j)) =
          let same : x ≡ y = i ∙ append-nil y in
          let h' : IsRefused gr r n b y u = subst (λ v. IsRefused gr r n b v u) same (subst (λ v. IsRefused gr r n b x v) (sym j) h) in
          (same_deep r n b c y u h' k, sym j)
      go (inr (t ∷ w, i, j)) = absurd (no_longer r n c y u x t w (w ++ s) k f i j)

  -- what an answer about all the tokens says
  abbrev pub Says : ℕ → (n : gr.Name) → List gr.Token → Outcome gr.Token (gr.Value n) → Type 0
  Says r n ts (Got x d rest) = (rest ≡ []) × IsRead gr d n ts x × (d ≤ r)
  Says r n ts (Bad deep rest) = HasFault gr r n ts deep rest

module _ (gr : Grammar) (lookahead : Lookahead gr.Token gr.Name gr.Value) (fits : IsLL1 gr lookahead) where
  -- whatever has begun to be read does so up to where the parser stops, or it stopped for the depth
  beyond : (q r : ℕ) (n : gr.Name) (ts c : List gr.Token) (t : gr.Token) (s : List gr.Token) → ts ≡ c ++ (t ∷ s)
      → IsViable gr q n (c ++ (t ∷ [])) → (o : Outcome gr.Token (gr.Value n)) → parse gr lookahead r n New ts ≡ o → Passes q r s o
  beyond q r n ts c t s e v o f =
      let same : (c ++ (t ∷ [])) ++ s ≡ ts = append_assoc c (t ∷ []) s ∙ sym e in
      subst (λ p. Passes q r s p) f
      (subst (λ us. Passes q r s (parse gr lookahead r n New us)) same (pass gr lookahead fits v.0 q r n (c ++ (t ∷ [])) s v.1))

  -- whatever is read is found at its end, or it stopped for the depth
  found : (q r : ℕ) (n : gr.Name) (ts c : List gr.Token) (x : gr.Value n) → ts ≡ c ++ []
      → IsRead gr q n c x → (o : Outcome gr.Token (gr.Value n)) → parse gr lookahead r n New ts ≡ o → Hits q r x [] o
  found q r n ts c x e h o f =
      subst (λ p. Hits q r x [] p) f (subst (λ us. Hits q r x [] (parse gr lookahead r n New us)) (sym e) (hit gr lookahead fits h.0 q r n c x [] h.1 tt))

  no_end : (n : gr.Name) (q r : ℕ) (x : gr.Value n) (d : ℕ) (t : gr.Token) (s : List gr.Token) → Passes q r s (Got x d (t ∷ s)) → ⊥
  no_end n q r x d t s (inl l) = omega arith
  no_end n q r x d t s (inr (l, b, e)) = cc

  no_less : (n : gr.Name) (r : ℕ) (deep : Bool) (t : gr.Token) (s : List gr.Token)
      → Passes {T = gr.Token} {A = gr.Value n} r r s (Bad deep (t ∷ s)) → ⊥
  no_less n r deep t s (inl l) = omega arith
  no_less n r deep t s (inr (l, b, e)) = omega arith

  for_depth : (n : gr.Name) (q r : ℕ) (deep : Bool) (t : gr.Token) (s : List gr.Token)
      → Passes {T = gr.Token} {A = gr.Value n} q r s (Bad deep (t ∷ s)) → deep ≡ true
  for_depth n q r deep t s (inl l) = absurd (omega arith)
  for_depth n q r deep t s (inr (l, b, e)) = cc

  not_found : (n : gr.Name) (r : ℕ) (x : gr.Value n) (deep : Bool) → Hits {T = gr.Token} r r x [] (Bad deep []) → ⊥
  not_found n r x deep (inl (d, l, e)) = cc
  not_found n r x deep (inr (l, b, e)) = omega arith

  found_deep : (n : gr.Name) (q r : ℕ) (x : gr.Value n) (deep : Bool) → Hits {T = gr.Token} q r x [] (Bad deep []) → deep ≡ true
  found_deep n q r x deep (inl (d, l, e)) = cc
  found_deep n q r x deep (inr (l, b, e)) = cc

  deeper : (n : gr.Name) (deep : Bool) (c : List gr.Token) (t : gr.Token) (s : List gr.Token)
      → TooDeep (λ us. (q : ℕ) × IsViable gr q n us) deep c (t ∷ s) → deep ≡ true → (q : ℕ) × IsViable gr q n (c ++ (t ∷ []))
  deeper n true c t s h e = h
  deeper n false c t s h e = let clash : ⊥ = cc in absurd clash

  not_deep : (n : gr.Name) (deep : Bool) (c : List gr.Token) {A : Type 0}
      → TooDeep (λ us. (q : ℕ) × IsViable gr q n us) deep c [] → deep ≡ true → A
  not_deep n true c h e = absurd h
  not_deep n false c h e = let clash : ⊥ = cc in absurd clash

  said : (r : ℕ) (n : gr.Name) (ts : List gr.Token) (o : Outcome gr.Token (gr.Value n)) → parse gr lookahead r n New ts ≡ o
      → NameAnswered gr r n ts o → Says gr r n ts (finish o)
  said r n ts (Got x d []) e (c, q, w, l) = (refl, subst (λ us. IsRead gr d n us x) (sym (q ∙ append-nil c)) w, l)
  said r n ts (Got x d (t ∷ s)) e (c, q, w, l) = (
    c,
    q,
    (
      (λ v. no_end n r r x d t s (beyond r r n ts c t s q v (Got x d (t ∷ s)) e)),
      (
        (λ f. let clash : ⊥ = cc in absurd clash),
        (λ v. absurd (no_end n v.0 r x d t s (beyond v.0 r n ts c t s q v.1 (Got x d (t ∷ s)) e))),
      ),
    ),
    (λ one other f. viable_prefix gr r n one other
        (subst (λ us. IsViable gr r n us) f (read_viable gr r n c x (is_read_up gr d r n c x l w)))),
  )
  said r n ts (Bad deep []) e (c, q, v, l) = (
    c,
    q,
    (
      (λ x h. not_found n r x deep (found r r n ts c x q h (Bad deep []) e)),
      (
        (λ f. not_deep n deep c l f),
        (λ h. found_deep n h.0 r h.1 deep (found h.0 r n ts c h.1 q h.2 (Bad deep []) e)),
      ),
    ),
    (λ one other f. viable_prefix gr r n one other (subst (λ us. IsViable gr r n us) f v)),
  )
  said r n ts (Bad deep (t ∷ s)) e (c, q, v, l) = (
    c,
    q,
    (
      (λ h. no_less n r deep t s (beyond r r n ts c t s q h (Bad deep (t ∷ s)) e)),
      (
        (λ f. deeper n deep c t s l f),
        (λ h. for_depth n h.0 r deep t s (beyond h.0 r n ts c t s q h.1 (Bad deep (t ∷ s)) e)),
      ),
    ),
    (λ one other f. viable_prefix gr r n one other (subst (λ us. IsViable gr r n us) f v)),
  )

  pub says : (r : ℕ) (n : gr.Name) (ts : List gr.Token) → Says gr r n ts (parse_all gr lookahead r n ts)
  says r n ts = said r n ts (parse gr lookahead r n New ts) refl (told gr lookahead fits r n New ts)

  -- What the parser gives is a reading of all the tokens, of exactly the depth that it tells.
  pub sound : (r : ℕ) (n : gr.Name) (ts : List gr.Token) (x : gr.Value n) (d : ℕ) (rest : List gr.Token)
      → parse_all gr lookahead r n ts ≡ Got x d rest → (rest ≡ []) × IsRead gr d n ts x × (d ≤ r)
  sound r n ts x d rest e = subst (λ o. Says gr r n ts o) e (says r n ts)

  -- Every reading within the room is given, with no greater depth.
  pub complete : (q r : ℕ) (n : gr.Name) (ts : List gr.Token) (x : gr.Value n) → IsRead gr q n ts x → q ≤ r
      → (d : ℕ) × (d ≤ q) × (parse_all gr lookahead r n ts ≡ Got x d [])
  complete q r n ts x h l = go (found q r n ts ts x (sym (append-nil ts)) h (parse gr lookahead r n New ts) refl)
    where
      go : Hits q r x [] (parse gr lookahead r n New ts) → (d : ℕ) × (d ≤ q) × (parse_all gr lookahead r n ts ≡ Got x d [])
      go (inl (d, m, e)) = (d, m, ap (λ o. finish o) e)
      go (inr (m, s, e)) = absurd (omega arith)

  -- Where it refuses, there is the fault.
  pub fault : (r : ℕ) (n : gr.Name) (ts : List gr.Token) (deep : Bool) (rest : List gr.Token)
      → parse_all gr lookahead r n ts ≡ Bad deep rest → HasFault gr r n ts deep rest
  fault r n ts deep rest e = subst (λ o. Says gr r n ts o) e (says r n ts)

  -- Where there is a fault, it refuses there.
  pub only_fault : (r : ℕ) (n : gr.Name) (ts : List gr.Token) (deep : Bool) (rest : List gr.Token)
      → HasFault gr r n ts deep rest → parse_all gr lookahead r n ts ≡ Bad deep rest
  only_fault r n ts deep rest h = go (parse_all gr lookahead r n ts) (says r n ts)
    where
      read_whole : (x : gr.Value n) (d : ℕ) (rest : List gr.Token) → IsRead gr d n ts x → d ≤ r → HasFault gr r n ts deep rest → ⊥
      read_whole x d [] w l (c, q, f, pre) =
          f.0 x (is_read_up gr d r n c x l (subst (λ us. IsRead gr d n us x) (q ∙ append-nil c) w))
      read_whole x d (t ∷ s) w l (c, q, f, pre) =
          f.0 (viable_prefix gr r n (c ++ (t ∷ [])) s
          (subst (λ us. IsViable gr r n us) (q ∙ sym (append_assoc c (t ∷ []) s)) (read_viable gr r n ts x (is_read_up gr d r n ts x l w))))

      go : (o : Outcome gr.Token (gr.Value n)) → Says gr r n ts o → o ≡ Bad deep rest
      go (Got x d s) (e, w, l) = absurd (read_whole x d rest w l h)
      go (Bad b s) k = let same = same_fault gr r n ts b deep s rest k h in ap₂ (λ v us. Bad v us) same.0 same.1

  -- There is one reading at most.
  pub one_reading : (q r : ℕ) (n : gr.Name) (ts : List gr.Token) (x y : gr.Value n) → IsRead gr q n ts x → IsRead gr r n ts y → x ≡ y
  one_reading q r n ts x y h k =
      let one : q ≤ max q r = omega arith in
      let other : r ≤ max q r = omega arith in
      let e = complete q (max q r) n ts x h one in
      let f = complete r (max q r) n ts y k other in
      same_value x y e.0 f.0 [] (sym e.2 ∙ f.2)

  -- At the end of the tokens no greater depth would do: a token more is wanted, and not more room.
  pub end_not_deep : (r : ℕ) (n : gr.Name) (ts : List gr.Token) (deep : Bool) → parse_all gr lookahead r n ts ≡ Bad deep [] → deep ≡ false
  end_not_deep r n ts deep e = go (parse gr lookahead r n New ts) (told gr lookahead fits r n New ts) e
    where
      go : (o : Outcome gr.Token (gr.Value n)) → NameAnswered gr r n ts o → finish o ≡ Bad deep [] → deep ≡ false
      go (Got x d []) h f = cc
      go (Got x d (t ∷ s)) h f = cc
      go (Bad true []) (c, q, v, l) f = absurd l
      go (Bad false []) h f = cc
      go (Bad b (t ∷ s)) h f = cc
