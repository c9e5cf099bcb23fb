-- The parser takes its steps without end: how many it is allowed never shows.
use Rattle.std.proofs.Common.{◌≡◌, ℕ, zero, suc, ◌+◌, ◌*◌, ◌≤◌, ◌<◌, max, Bool, true, false, cond, ◌||◌, leb, List, [], ◌∷◌, length, Option, Some, ◌⊎◌, inl, inr, refl, sym, ap, ap₂, ◌∙◌, subst, le_refl, mul-le-mul_left, length-append, arith}
use Rattle.grammar.specs.Parts.{Parts, Return, Take, Call, Either, Production, Plain, Node, Chain, Grammar}
use Rattle.grammar.specs.Reading.{IsRead, IsViable}
use Rattle.grammar.specs.Parser.{Lookahead, Outcome, Got, Bad, Entry, New, Past, nothing, begins, starts, run, after, deepen, one_more, produce, go_on, step, parse_within, rank_of, steps_for, parse}
use Rattle.grammar.specs.LL1.{Decided, Ranked, IsLL1Production, IsLL1}
use Rattle.grammar.proofs.Closed.{is_read_up, is_viable_up}
use Rattle.grammar.proofs.First.{parts_empty, reads_empty}
use Rattle.grammar.proofs.Answered.{PartsAnswered, NameAnswered, PlaceAnswered, answered_run, answered_within}

-- fewer tokens are left, or all of them and nothing was read
abbrev pub Falls : {T A : Type 0} → List T → List T → Option A → A → Type 0
Falls us rest empty x = (length rest < length us) ⊎ ((rest ≡ us) × (empty ≡ Some x))

pub falls_le : {T A : Type 0} (us rest : List T) (empty : Option A) (x : A) → Falls us rest empty x → length rest ≤ length us
falls_le us rest empty x (inl l) = omega arith
falls_le us rest empty x (inr (e, n)) = let l = ap length e in omega arith

module _ {T N : Type 0} {V : N → Type 0} (lookahead : Lookahead T N V) (P P' : (m : N) → List T → Outcome T (V m))
    (fall : (m : N) (us : List T) (a : V m) (d : ℕ) (rest : List T) → P m us ≡ Got a d rest → Falls us rest (lookahead.nullable m) a) where
  -- two that agree on shorter lists
  same_run : {A : Type 0} (l : ℕ) → ((m : N) (us : List T) → length us < l → P m us ≡ P' m us)
      → (g : Parts T N V A) (us : List T) → length us < l → run lookahead P g us ≡ run lookahead P' g us
  same_run l agree (Return y) us s = refl
  same_run l agree (Take p k) [] s = refl
  same_run l agree (Take p k) (t ∷ us) s =
      let less : length us < l = omega arith in
      ap (λ o. cond (p t) o (Bad false (t ∷ us))) (same_run l agree (k t) us less)
  same_run {A} l agree (Call m k) us s =
      go (P m us) refl (λ a rest q. same_run l agree (k a) rest q)
      ∙ ap (λ o. after (λ a depth left. deepen depth (run lookahead P' (k a) left)) o) (agree m us s)
    where
      go : (o : Outcome T (V m)) → P m us ≡ o
          → ((a : V m) (rest : List T) → length rest < l → run lookahead P (k a) rest ≡ run lookahead P' (k a) rest)
          → after (λ a depth left. deepen depth (run lookahead P (k a) left)) o ≡ after (λ a depth left. deepen depth (run lookahead P' (k a) left)) o
      go (Got a d rest) e rec =
          let le = falls_le us rest (lookahead.nullable m) a (fall m us a d rest e) in
          let less : length rest < l = omega arith in
          ap (λ o. deepen d o) (rec a rest less)
      go (Bad deep rest) e rec = refl
  same_run l agree (Either g h) us s =
      ap₂ (λ o q. cond (starts lookahead g us) o q) (same_run l agree g us s) (same_run l agree h us s)

  -- two that agree on shorter lists, and on this one for names of smaller rank
  same_front : {A : Type 0} (rank : ℕ) (ts : List T) → ((m : N) → lookahead.rank m < rank → P m ts ≡ P' m ts)
      → ((m : N) (us : List T) → length us < length ts → P m us ≡ P' m us)
      → (g : Parts T N V A) → Ranked lookahead rank g → run lookahead P g ts ≡ run lookahead P' g ts
  same_front rank ts front agree (Return y) k = refl
  same_front rank [] front agree (Take p rest) k = refl
  same_front rank (t ∷ us) front agree (Take p rest) k =
      let less : length us < length (t ∷ us) = omega arith in
      ap (λ o. cond (p t) o (Bad false (t ∷ us))) (same_run (length (t ∷ us)) agree (rest t) us less)
  same_front {A} rank ts front agree (Call m rest) k =
      go (P m ts) refl (λ a q. same_front rank ts front agree (rest a) q)
      ∙ ap (λ o. after (λ a depth left. deepen depth (run lookahead P' (rest a) left)) o) (front m k.0)
    where
      either : (a : V m) (left : List T) → Falls ts left (lookahead.nullable m) a
          → ((a : V m) → Ranked lookahead rank (rest a) → run lookahead P (rest a) ts ≡ run lookahead P' (rest a) ts)
          → run lookahead P (rest a) left ≡ run lookahead P' (rest a) left
      either a left (inl l) rec = same_run (length ts) agree (rest a) left l
      either a left (inr (e, none)) rec = subst (λ us. run lookahead P (rest a) us ≡ run lookahead P' (rest a) us) (sym e) (rec a (k.1 a none))

      go : (o : Outcome T (V m)) → P m ts ≡ o → ((a : V m) → Ranked lookahead rank (rest a) → run lookahead P (rest a) ts ≡ run lookahead P' (rest a) ts)
          → after (λ a depth left. deepen depth (run lookahead P (rest a) left)) o ≡ after (λ a depth left. deepen depth (run lookahead P' (rest a) left)) o
      go (Got a d left) e rec = ap (λ o. deepen d o) (either a left (fall m ts a d left e) rec)
      go (Bad deep left) e rec = refl
  same_front rank ts front agree (Either g h) k =
      ap₂ (λ o q. cond (starts lookahead g ts) o q) (same_front rank ts front agree g k.0) (same_front rank ts front agree h k.1)

-- one production
module _ {T N : Type 0} {V : N → Type 0} (lookahead : Lookahead T N V) (n : N) (P P' : ℕ → (m : N) → List T → Outcome T (V m))
    (here here' : V n → ℕ → List T → Outcome T (V n))
    (fall : (w : ℕ) (m : N) (us : List T) (a : V m) (d : ℕ) (rest : List T) → P w m us ≡ Got a d rest → Falls us rest (lookahead.nullable m) a)
    (run_fall : (w : ℕ) (g : Parts T N V (V n)) (follows : V n → T → Bool) → Decided lookahead follows g
    → (us : List T) (x : V n) (d : ℕ) (rest : List T) → run lookahead (P w) g us ≡ Got x d rest → Falls us rest (nothing lookahead g) x)
    (ts : List T)
    (front : (w : ℕ) (m : N) → lookahead.rank m < lookahead.rank n → P w m ts ≡ P' w m ts)
    (shorter : (w : ℕ) (m : N) (us : List T) → length us < length ts → P w m us ≡ P' w m us)
    (here_shorter : (y : V n) (d : ℕ) (us : List T) → length us < length ts → here y d us ≡ here' y d us) where
  same_parts : (w : ℕ) (g : Parts T N V (V n)) → Ranked lookahead (lookahead.rank n) g → run lookahead (P w) g ts ≡ run lookahead (P' w) g ts
  same_parts w g k = same_front lookahead (P w) (P' w) (fall w) (lookahead.rank n) ts (front w) (shorter w) g k

  same_produce : (p : Production T N V (V n)) → IsLL1Production lookahead n p → (room : ℕ)
      → ((y : V n) (d : ℕ) → here y d ts ≡ here' y d ts) → produce lookahead P here p room ts ≡ produce lookahead P' here' p room ts
  same_produce (Plain g) f room same = same_parts room g f.2
  same_produce (Node g) f zero same = refl
  same_produce (Node g) f (suc room) same = ap (λ o. one_more o) (same_parts room g f.3)
  same_produce (Chain b step) f room same =
      go (run lookahead (P room) b ts) refl ∙ ap (λ o. after here' o) (same_parts room b f.2)
    where
      either : (x : V n) (d : ℕ) (rest : List T) → Falls ts rest (nothing lookahead b) x → here x d rest ≡ here' x d rest
      either x d rest (inl l) = here_shorter x d rest l
      either x d rest (inr (e, none)) = subst (λ us. here x d us ≡ here' x d us) (sym e) (same x d)

      go : (o : Outcome T (V n)) → run lookahead (P room) b ts ≡ o → after here o ≡ after here' o
      go (Got x d rest) e = either x d rest (run_fall room b (λ y t. lookahead.follow n y t || begins lookahead (step y) t) f.3 ts x d rest e)
      go (Bad deep rest) e = refl

  same_go_on : (p : Production T N V (V n)) → IsLL1Production lookahead n p → (room : ℕ) (x : V n) (d : ℕ)
      → go_on lookahead P here p room x d ts ≡ go_on lookahead P' here' p room x d ts
  same_go_on (Plain g) f room x d = refl
  same_go_on (Node g) f room x d = refl
  same_go_on (Chain b step) f zero x d = refl
  same_go_on (Chain b step) f (suc room) x d =
      ap (λ o. cond (starts lookahead (step x) ts) (cond (leb d room) o (Bad true ts)) (Got x d ts))
      (go (run lookahead (P room) (step x) ts) refl
      ∙ ap (λ o. after (λ y deeper left. here' y (suc (max d deeper)) left) o) (same_parts room (step x) (f.5 x)))
    where
      either : (y : V n) (e : ℕ) (rest : List T) → Falls ts rest (nothing lookahead (step x)) y → here y (suc (max d e)) rest ≡ here' y (suc (max d e)) rest
      either y e rest (inl l) = here_shorter y (suc (max d e)) rest l
      either y e rest (inr (q, some)) = let none = f.4 x in let clash : ⊥ = cc in absurd clash

      go : (o : Outcome T (V n)) → run lookahead (P room) (step x) ts ≡ o
          → after (λ y deeper left. here y (suc (max d deeper)) left) o ≡ after (λ y deeper left. here' y (suc (max d deeper)) left) o
      go (Got y e rest) q =
          either y e rest (run_fall room (step x) (λ z t. lookahead.follow n z t || begins lookahead (step z) t) (f.6 x) ts y e rest q)
      go (Bad deep rest) q = refl

-- the numbers of steps
rank_of_le : {A : Type 0} (r ranks : ℕ) (e : Entry A) → r < ranks → rank_of r e < 2 * ranks
rank_of_le r ranks New l = omega arith
rank_of_le r ranks (Past x d) l = omega arith

below_any : {A : Type 0} (r s : ℕ) (e : Entry A) → r < s → 2 * r + 1 < rank_of s e
below_any r s New l = omega arith
below_any r s (Past x d) l = omega arith

room_for : (k a b x y : ℕ) → a < b → x < k → suc (k * a + x) < suc (k * b + y)
room_for k a b x y l m = let e : k * suc a ≤ k * b = mul-le-mul_left k l in omega arith

room_here : (k a b x : ℕ) → a ≤ b → suc (k * a + x) < suc (k * b + (x + 1))
room_here k a b x l = let e : k * a ≤ k * b = mul-le-mul_left k l in omega arith

module _ (gr : Grammar) (lookahead : Lookahead gr.Token gr.Name gr.Value) (fits : IsLL1 gr lookahead) where
  pub name_falls : (w : ℕ) (m : gr.Name) (us : List gr.Token) (a : gr.Value m) (d : ℕ) (rest : List gr.Token)
      → NameAnswered gr w m us (Got a d rest) → Falls us rest (lookahead.nullable m) a
  name_falls w m us a d rest ([], q, r, l) = inr (sym q, reads_empty gr lookahead fits r.0 d m a r.1)
  name_falls w m us a d rest (c ∷ cs, q, r, l) = let e = ap length q in let f = length-append cs rest in inl (omega arith)

  pub parts_falls : {A : Type 0} (w : ℕ) (g : Parts gr.Token gr.Name gr.Value A) (follows : A → gr.Token → Bool) → Decided lookahead follows g
      → (us : List gr.Token) (x : A) (d : ℕ) (rest : List gr.Token)
      → PartsAnswered lookahead (λ v m vs y. IsRead gr v m vs y) (λ v m vs. IsViable gr v m vs) w g us (Got x d rest) → Falls us rest (nothing lookahead g) x
  parts_falls w g follows decided us x d rest ([], q, r, l) =
      inr (sym q, parts_empty lookahead (λ m vs y. IsRead gr d m vs y) (λ m y h. reads_empty gr lookahead fits h.0 d m y h.1) follows g x decided r)
  parts_falls w g follows decided us x d rest (c ∷ cs, q, r, l) = let e = ap length q in let f = length-append cs rest in inl (omega arith)

  fall : (k w : ℕ) (m : gr.Name) (us : List gr.Token) (a : gr.Value m) (d : ℕ) (rest : List gr.Token)
      → parse_within gr lookahead k w m New us ≡ Got a d rest → Falls us rest (lookahead.nullable m) a
  fall k w m us a d rest e = name_falls w m us a d rest (subst (λ o. NameAnswered gr w m us o) e (answered_within gr lookahead fits k w m New us))

  run_fall : (k w : ℕ) {A : Type 0} (g : Parts gr.Token gr.Name gr.Value A) (follows : A → gr.Token → Bool) → Decided lookahead follows g
      → (us : List gr.Token) (x : A) (d : ℕ) (rest : List gr.Token)
      → run lookahead (λ m vs. parse_within gr lookahead k w m New vs) g us ≡ Got x d rest → Falls us rest (nothing lookahead g) x
  run_fall k w g follows decided us x d rest e =
      parts_falls w g follows decided us x d rest
      (subst (λ o. PartsAnswered lookahead (λ v m vs y. IsRead gr v m vs y) (λ v m vs. IsViable gr v m vs) w g us o) e
      (answered_run lookahead (λ v m vs y. IsRead gr v m vs y) (λ v m vs. IsViable gr v m vs)
      (λ v u m vs y. is_read_up gr v u m vs y) (λ v u m vs. is_viable_up gr v u m vs) w
      (λ m vs. parse_within gr lookahead k w m New vs) (λ m vs. answered_within gr lookahead fits k w m New vs) g us))

  -- a step is the same with whatever agrees on what has fewer steps before it
  same_step : (k : ℕ) (Q : ℕ → (m : gr.Name) → Entry (gr.Value m) → List gr.Token → Outcome gr.Token (gr.Value m))
      (room : ℕ) (n : gr.Name) (e : Entry (gr.Value n)) (ts : List gr.Token)
      → ((w : ℕ) (m : gr.Name) (f : Entry (gr.Value m)) (us : List gr.Token)
      → steps_for gr lookahead m f us < steps_for gr lookahead n e ts → parse_within gr lookahead k w m f us ≡ Q w m f us)
      → step gr lookahead (λ w m f us. parse_within gr lookahead k w m f us) room n e ts ≡ step gr lookahead Q room n e ts
  same_step k Q room n New ts agree =
      same_produce lookahead n (λ w m us. parse_within gr lookahead k w m New us) (λ w m us. Q w m New us)
      (λ y d us. parse_within gr lookahead k room n (Past y d) us) (λ y d us. Q room n (Past y d) us)
      (λ w m us a d rest. fall k w m us a d rest) (λ w g follows decided us x d rest. run_fall k w g follows decided us x d rest) ts
      (λ w m l. agree w m New ts (front_less m New l))
      (λ w m us l. agree w m New us (shorter_less m New New us l))
      (λ y d us l. agree room n (Past y d) us (shorter_less n (Past y d) New us l))
      (gr.production n) (fits n).1 room
      (λ y d. agree room n (Past y d) ts (room_here (2 * lookahead.ranks) (length ts) (length ts) (2 * lookahead.rank n) (le_refl (length ts))))
    where
      front_less : (m : gr.Name) (e : Entry (gr.Value n)) → lookahead.rank m < lookahead.rank n
          → steps_for gr lookahead m New ts < steps_for gr lookahead n e ts
      front_less m e l = let q = below_any (lookahead.rank m) (lookahead.rank n) e l in omega arith

      shorter_less : (m : gr.Name) (f : Entry (gr.Value m)) (e : Entry (gr.Value n)) (us : List gr.Token) → length us < length ts
          → steps_for gr lookahead m f us < steps_for gr lookahead n e ts
      shorter_less m f e us l =
          room_for (2 * lookahead.ranks) (length us) (length ts) (rank_of (lookahead.rank m) f) (rank_of (lookahead.rank n) e) l
          (rank_of_le (lookahead.rank m) lookahead.ranks f (fits m).0)
  same_step k Q room n (Past x d) ts agree =
      same_go_on lookahead n (λ w m us. parse_within gr lookahead k w m New us) (λ w m us. Q w m New us)
      (λ y d us. parse_within gr lookahead k room n (Past y d) us) (λ y d us. Q room n (Past y d) us)
      (λ w m us a d rest. fall k w m us a d rest) (λ w g follows decided us x d rest. run_fall k w g follows decided us x d rest) ts
      (λ w m l. agree w m New ts (front_less m l))
      (λ w m us l. agree w m New us (shorter_less m New us l))
      (λ y d us l. agree room n (Past y d) us (shorter_less n (Past y d) us l))
      (gr.production n) (fits n).1 room x d
    where
      front_less : (m : gr.Name) → lookahead.rank m < lookahead.rank n → steps_for gr lookahead m New ts < steps_for gr lookahead n (Past x d) ts
      front_less m l = let q = below_any (lookahead.rank m) (lookahead.rank n) (Past x d) l in omega arith

      shorter_less : (m : gr.Name) (f : Entry (gr.Value m)) (us : List gr.Token) → length us < length ts
          → steps_for gr lookahead m f us < steps_for gr lookahead n (Past x d) ts
      shorter_less m f us l =
          room_for (2 * lookahead.ranks) (length us) (length ts) (rank_of (lookahead.rank m) f) (rank_of (lookahead.rank n) (Past x d)) l
          (rank_of_le (lookahead.rank m) lookahead.ranks f (fits m).0)

  -- enough steps are as good as any greater number
  pub enough : (k more room : ℕ) (n : gr.Name) (e : Entry (gr.Value n)) (ts : List gr.Token)
      → steps_for gr lookahead n e ts ≤ k → steps_for gr lookahead n e ts ≤ more
      → parse_within gr lookahead k room n e ts ≡ parse_within gr lookahead more room n e ts
  enough zero more room n e ts l m = absurd (omega arith)
  enough (suc k) zero room n e ts l m = absurd (omega arith)
  enough (suc k) (suc more) room n e ts l m =
      same_step k (λ w i f us. parse_within gr lookahead more w i f us) room n e ts
      (λ w i f us q. enough k more w i f us (let a : steps_for gr lookahead i f us ≤ k = omega arith in a)
      (let b : steps_for gr lookahead i f us ≤ more = omega arith in b))

  -- the parser is its own step
  pub parse_step : (room : ℕ) (n : gr.Name) (e : Entry (gr.Value n)) (ts : List gr.Token)
      → parse gr lookahead room n e ts ≡ step gr lookahead (λ w m f us. parse gr lookahead w m f us) room n e ts
  unfolding parse
  parse_step room n e ts =
      same_step (2 * lookahead.ranks * length ts + rank_of (lookahead.rank n) e)
      (λ w m f us. parse_within gr lookahead (steps_for gr lookahead m f us) w m f us) room n e ts
      (λ w m f us q. enough (2 * lookahead.ranks * length ts + rank_of (lookahead.rank n) e) (steps_for gr lookahead m f us) w m f us
      (let a : steps_for gr lookahead m f us ≤ 2 * lookahead.ranks * length ts + rank_of (lookahead.rank n) e = omega arith in a)
      (le_refl (steps_for gr lookahead m f us)))

  -- what the parser answers is so
  pub told : (room : ℕ) (n : gr.Name) (e : Entry (gr.Value n)) (ts : List gr.Token) → PlaceAnswered gr room n e ts (parse gr lookahead room n e ts)
  unfolding parse
  told room n e ts = answered_within gr lookahead fits (steps_for gr lookahead n e ts) room n e ts
