-- Reach and components, for any number of states.
--     via_link, via_join, via_least                             Warshall's closure holds the links, is closed under joining at a state below k, and is the least such
--     path_append                                               paths join
--     path_reaches, reaches_view                                p reaches q exactly if a path leads from p to q
--     together_view                                             two states share a component exactly if a path leads from each to the other
--     together_refl, together_sym, together_trans               sharing a component is an equivalence
--     component_together, component_least, component_same       component_of is the smallest state of the component, and the same for all of it
--     together_component, inside_component, within_component    what shares a component, what is inside and which tests that passes, by the numbers
--                                                               of components alone
--     inside_parts, inside_of_return                            what an inside transition is; one with a way back is inside
--     Within, within_view, within_same                          a test that some inside transition of a component passes, the same for the whole component
--     within_none                                               a test that no transition passes
use mathlib.Core.Path.{◌≡◌, refl, sym}
use mathlib.Core.Logic.{◌↔◌}
use mathlib.Core.Bool.{Bool, true, false, ◌&&◌}
use mathlib.Core.List.{List, [], ◌∷◌, ◌++◌}
use Prim.Native.Nat.{ℕ, zero, suc, ◌≤◌, ◌<◌}
use native.Mathlib.Nat.{not-suc-le-zero, le_antisymm}
use native.Mathlib.Omega.{arith}
use lib.Dec.{eqb, ltb}
use borrow.Author.Tests.{eqb-true, eqb-false, eq-eqb, ltb-true, lt-ltb}
use Rattle.rules.specs.Basics.{any_below}
use Rattle.rules.specs.Systems.{System, linked, via, reaches, together, component_of, is_inside, some_within, Path, here, step, Leads}
use Rattle.rules.proofs.Bools.{by, clash, or_cases, or_left, or_right, and_both, and_parts, bool_ext}
use Rattle.rules.proofs.Sets.{below_find, below_intro, below_same, least_passes, least_least}

-- Warshall's closure of any relation
module _ (e : ℕ → ℕ → Bool) where
  pub via_link : (k p q : ℕ) → e p q ≡ true → via e k p q ≡ true
  via_link zero p q h = h
  via_link (suc k) p q h = or_left (via e k p q) (via e k p k && via e k k q) (via_link k p q h)

  via_through : (k p q : ℕ) → via e k p k ≡ true → via e k k q ≡ true → via e (suc k) p q ≡ true
  via_through k p q g h = or_right (via e k p q) (via e k p k && via e k k q) (and_both (via e k p k) (via e k k q) g h)

  -- the two ways of a chain that may pass through k: not at all, or to k and from k on
  via_split : {C : Type 0} (k p q : ℕ) → via e (suc k) p q ≡ true → (via e k p q ≡ true → C) → (via e k p k ≡ true → via e k k q ≡ true → C)
      → C
  via_split k p q h f g =
      or_cases (via e k p q) (via e k p k && via e k k q) h f (λ b. let r = and_parts (via e k p k) (via e k k q) b in g r.0 r.1)

  pub via_join : (k p x q : ℕ) → x < k → via e k p x ≡ true → via e k x q ≡ true → via e k p q ≡ true
  via_join zero p x q l g h = absurd (not-suc-le-zero l)
  via_join (suc k) p x q l g h =
      by
      (eqb x k)
      (λ c. at_k (rw (eqb-true x k c) at g) (rw (eqb-true x k c) at h))
      (λ c. below_k (λ y z. via_join k y x z (omega (arith, eqb-false x k c))))
    where
      at_k : via e (suc k) p k ≡ true → via e (suc k) k q ≡ true → via e (suc k) p q ≡ true
      at_k g' h' = via_through k p q (via_split k p k g' (λ a. a) (λ a b. a)) (via_split k k q h' (λ a. a) (λ a b. b))

      below_k : ((y z : ℕ) → via e k y x ≡ true → via e k x z ≡ true → via e k y z ≡ true) → via e (suc k) p q ≡ true
      below_k join =
          via_split k p x g
          (λ px. via_split k x q h (λ xq. or_left (via e k p q) (via e k p k && via e k k q) (join p q px xq)) (λ xk kq. via_through k p q (join p k px xk) kq))
          (λ pk kx. via_split k x q h (λ xq. via_through k p q pk (join k q kx xq)) (λ xk kq. via_through k p q pk kq))

  pub via_least : (P : ℕ → ℕ → Type 0) → ((p q : ℕ) → e p q ≡ true → P p q) → ((p x q : ℕ) → P p x → P x q → P p q) → (k p q : ℕ)
      → via e k p q ≡ true → P p q
  via_least P link join zero p q h = link p q h
  via_least P link join (suc k) p q h =
      via_split k p q h (λ a. via_least P link join k p q a)
      (λ a b. join p k q (via_least P link join k p k a) (via_least P link join k k q b))

module _ (s : System) where
  -- paths
  pub path_append : {p : ℕ} {u : List ℕ} {x : ℕ} {v : List ℕ} {q : ℕ} → Path s p u x → Path s x v q → Path s p (u ++ v) q
  path_append here b = b
  path_append (step l t a) b = step l t (path_append a b)

  link_leads : (p q : ℕ) → linked s p q ≡ true → Leads s p q
  unfolding linked
  link_leads p q h =
      let r = and_parts (ltb q s.states) (any_below s.letters (λ a. eqb (s.go p a) q)) h in
      let f = below_find s.letters (λ a. eqb (s.go p a) q) r.1 in
      let t : s.go p f.0 ≡ q = eqb-true (s.go p f.0) q f.2 in
      let one : Path s p (f.0 ∷ []) (s.go p f.0) = step {p = p} f.1 (rw t (ltb-true q s.states r.0)) here in
      (f.0 ∷ [], rw t at one)

  link_of_step : (p a : ℕ) → a < s.letters → s.go p a < s.states → linked s p (s.go p a) ≡ true
  unfolding linked
  link_of_step p a l t =
      and_both (ltb (s.go p a) s.states) (any_below s.letters (λ b. eqb (s.go p b) (s.go p a))) (lt-ltb (s.go p a) s.states t)
      (below_intro s.letters (λ b. eqb (s.go p b) (s.go p a)) a l (eq-eqb (s.go p a) (s.go p a) refl))

  reaches_leads : (p q : ℕ) → reaches s p q ≡ true → Leads s p q
  unfolding reaches
  reaches_leads p q h =
      or_cases (eqb p q) (via (linked s) s.states p q) h (λ e. ([], rw (eqb-true p q e) here))
      (λ v. via_least (linked s) (Leads s) link_leads (λ a x b f g. (f.0 ++ g.0, path_append f.1 g.1)) s.states p q v)

  pub path_reaches : {p : ℕ} {w : List ℕ} {q : ℕ} → Path s p w q → reaches s p q ≡ true
  unfolding reaches
  path_reaches {p} here = or_left (eqb p p) (via (linked s) s.states p p) (eq-eqb p p refl)
  path_reaches {p} {q} (step {a = a} l t rest) =
      or_right (eqb p q) (via (linked s) s.states p q)
      (or_cases (eqb (s.go p a) q) (via (linked s) s.states (s.go p a) q) (path_reaches rest)
      (λ e. via_link (linked s) s.states p q (rw (eqb-true (s.go p a) q e) at (link_of_step p a l t)))
      (λ v. via_join (linked s) s.states p (s.go p a) q t (via_link (linked s) s.states p (s.go p a) (link_of_step p a l t)) v))

  pub reaches_view : (p q : ℕ) → (reaches s p q ≡ true) ↔ Leads s p q
  reaches_view p q = (reaches_leads p q, λ l. path_reaches l.1)

  -- components
  pub together_view : (p q : ℕ) → (together s p q ≡ true) ↔ (Leads s p q × Leads s q p)
  unfolding together
  together_view p q =
      (λ h. let r = and_parts (reaches s p q) (reaches s q p) h in (reaches_leads p q r.0, reaches_leads q p r.1), λ l. and_both (reaches s p q) (reaches s q p) (path_reaches l.0.1) (path_reaches l.1.1))

  pub together_refl : (p : ℕ) → together s p p ≡ true
  together_refl p = (together_view p p).1 (([], here), ([], here))

  pub together_sym : (p q : ℕ) → together s p q ≡ true → together s q p ≡ true
  together_sym p q h = let r = (together_view p q).0 h in (together_view q p).1 (r.1, r.0)

  pub together_trans : (p x q : ℕ) → together s p x ≡ true → together s x q ≡ true → together s p q ≡ true
  together_trans p x q g h =
      let a = (together_view p x).0 g in
      let b = (together_view x q).0 h in
      (together_view p q).1 ((a.0.0 ++ b.0.0, path_append a.0.1 b.0.1), (b.1.0 ++ a.1.0, path_append b.1.1 a.1.1))

  pub component_together : (q : ℕ) → q < s.states → together s q (component_of s q) ≡ true
  unfolding component_of
  component_together q l = least_passes s.states 0 (together s q) q (omega arith) (omega arith) (together_refl q)

  pub component_least : (q p : ℕ) → together s q p ≡ true → component_of s q ≤ p
  unfolding component_of
  component_least q p h = least_least s.states 0 (together s q) p (omega arith) h

  pub component_same : (p q : ℕ) → p < s.states → q < s.states → (together s p q ≡ true) ↔ (component_of s p ≡ component_of s q)
  component_same p q lp lq =
      (λ h. le_antisymm (below p q lq h) (below q p lp (together_sym p q h)), λ e. together_trans p (component_of s p) q (component_together p lp) (together_sym q (component_of s p) (rw e (component_together q lq))))
    where
      below : (x y : ℕ) → y < s.states → together s x y ≡ true → component_of s x ≤ component_of s y
      below x y l h = component_least x (component_of s y) (together_trans x y (component_of s y) h (component_together y l))

  -- the number of a component decides what is inside and which tests that passes
  pub together_component : (p q : ℕ) → p < s.states → q < s.states → together s p q ≡ eqb (component_of s q) (component_of s p)
  together_component p q lp lq =
      bool_ext (together s p q) (eqb (component_of s q) (component_of s p)) (λ h. eq-eqb _ _ (sym ((component_same p q lp lq).0 h)))
      (λ e. (component_same p q lp lq).1 (sym (eqb-true (component_of s q) (component_of s p) e)))

  pub inside_component : (q a : ℕ) → q < s.states
      → is_inside s q a ≡ ltb (s.go q a) s.states && eqb (component_of s (s.go q a)) (component_of s q)
  unfolding is_inside
  inside_component q a l =
      by
      (ltb (s.go q a) s.states)
      (λ e. rw (e, together_component q (s.go q a) l (ltb-true (s.go q a) s.states e)))
      (λ e. rw e)

  pub within_component : (b : ℕ → ℕ → Bool) (q : ℕ) → q < s.states
      → some_within s b q ≡ any_below s.states (λ p. eqb (component_of s p) (component_of s q) && any_below s.letters (λ a. is_inside s p a && b p a))
  unfolding some_within
  within_component b q l = below_same s.states _ _ (λ p lp. rw (together_component q p l lp))

  -- inside transitions
  pub inside_of_return : {p a : ℕ} {w : List ℕ} → a < s.letters → s.go p a < s.states → Path s (s.go p a) w p → is_inside s p a ≡ true
  unfolding is_inside
  inside_of_return {p} {a} {w} l t back =
      and_both (ltb (s.go p a) s.states) (together s p (s.go p a)) (lt-ltb (s.go p a) s.states t)
      ((together_view p (s.go p a)).1 ((a ∷ [], step l t here), (w, back)))

  pub inside_parts : (p a : ℕ) → is_inside s p a ≡ true → (s.go p a < s.states) × (together s p (s.go p a) ≡ true)
  unfolding is_inside
  inside_parts p a h =
      let r = and_parts (ltb (s.go p a) s.states) (together s p (s.go p a)) h in (ltb-true (s.go p a) s.states r.0, r.1)

  pub record Within (b : ℕ → ℕ → Bool) (q : ℕ) : Type 0 where
    pub state : ℕ
    pub letter : ℕ
    pub is_state : state < s.states
    pub is_letter : letter < s.letters
    pub near : together s q state ≡ true
    pub inside : is_inside s state letter ≡ true
    pub passes : b state letter ≡ true

  pub within_view : (b : ℕ → ℕ → Bool) (q : ℕ) → (some_within s b q ≡ true) ↔ Within b q
  unfolding some_within
  within_view b q =
      (found, λ m. below_intro s.states at_state m.state m.is_state (and_both (together s q m.state) (any_below s.letters (by_letter m.state)) m.near (below_intro s.letters (by_letter m.state) m.letter m.is_letter (and_both (is_inside s m.state m.letter) (b m.state m.letter) m.inside m.passes))))
    where
      by_letter : ℕ → ℕ → Bool
      by_letter p a = is_inside s p a && b p a

      at_state : ℕ → Bool
      at_state p = together s q p && any_below s.letters (by_letter p)

      found : any_below s.states at_state ≡ true → Within b q
      found h =
          let f = below_find s.states at_state h in
          let r = and_parts (together s q f.0) (any_below s.letters (by_letter f.0)) f.2 in
          let g = below_find s.letters (by_letter f.0) r.1 in
          let i = and_parts (is_inside s f.0 g.0) (b f.0 g.0) g.2 in
          record { state = f.0; letter = g.0; is_state = f.1; is_letter = g.1; near = r.0; inside = i.0; passes = i.1 }

  pub within_same : (b : ℕ → ℕ → Bool) (p q : ℕ) → together s p q ≡ true → some_within s b p ≡ some_within s b q
  within_same b p q t = bool_ext (some_within s b p) (some_within s b q) (carried p q (together_sym p q t)) (carried q p t)
    where
      carried : (x y : ℕ) → together s y x ≡ true → some_within s b x ≡ true → some_within s b y ≡ true
      carried x y e h =
          let m = (within_view b x).0 h in
          (within_view b y).1
          (record { state = m.state; letter = m.letter; is_state = m.is_state; is_letter = m.is_letter; near = together_trans y x m.state e m.near; inside = m.inside; passes = m.passes })

  pub within_none : (b : ℕ → ℕ → Bool) (q : ℕ) → ((p a : ℕ) → b p a ≡ false) → some_within s b q ≡ false
  within_none b q none = by (some_within s b q) (λ e. let m = (within_view b q).0 e in clash m.passes (none m.state m.letter)) (λ e. e)
