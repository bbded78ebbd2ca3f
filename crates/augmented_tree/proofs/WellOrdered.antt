-- What is known of a tree, and what a change below a node leaves.
use Rattle.std.proofs.Common.{◌≡◌, ◌≢◌, ℕ, zero, suc, ◌+◌, ◌*◌, ◌^◌, ◌<◌, ◌≤◌, Bool, true, false, ◌||◌, List, [], ◌∷◌, ◌++◌, Option, refl, sym, ap, subst, ◌∙◌, arith, Box}
use Rattle.std.specs.Prelude.{max, nat_lt, nat_eq, if◌then◌else◌}
use Rattle.std.specs.declared.alloc.Global.{Global}
use Rattle.std.proofs.lemmas.Bool.Decides.{nat_tests}
use Rattle.augmented_tree.specs.declared.Node.{Node}
use Rattle.augmented_tree.specs.declared.Tree.{Tree, Leaf, Fork'}
use Rattle.augmented_tree.specs.declared.Tree.TheVariants.{Fork}
use Rattle.augmented_tree.specs.Lists.{AllOf, IsRisingBy, put_item, take_item, has_item, find_item, change_item}
use Rattle.augmented_tree.specs.Shape.{items, depth, middle, HasSummaries, IsTree}
use Rattle.augmented_tree.proofs.Order.{all_both, all_front, all_back, all_put, all_taken, all_changed, all_map, all_above, rising_both, put_least, put_front, put_back, take_front, take_back, change_front, change_back, has_none_above, has_none_below, has_both, find_front, find_back}

module _ {A S : Type 0} (key : A → ℕ) (fits : A → Type 0) (tells : S → List A → Type 0) where
  abbrev IsOrdered : ℕ → ℕ → Tree A S → Type 0
  IsOrdered = IsTree key fits tells

  -- what `IsTree` says of a node
  abbrev pub NodeAt : ℕ → ℕ → A → S → Tree A S → Tree A S → Type 0
  NodeAt low high here summary left right =
      (low ≤ key here) × (key here < high) × fits here
      × AllOf (λ y. key here < key y) (items left)
      × AllOf (λ y. key here < key y) (items right)
      × tells summary (here ∷ items left ++ items right)
      × IsOrdered low (middle low high) left × IsOrdered (middle low high) high right

  pub summarized : (low high : ℕ) (t : Tree A S) → IsOrdered low high t → HasSummaries fits tells t
  summarized low high Leaf h = tt
  summarized low high (Fork' p here s l r) h = (h.2, h.5, summarized low (middle low high) l h.6, summarized (middle low high) high r h.7)

  -- what holds of each item
  pub all_fit : (t : Tree A S) → HasSummaries fits tells t → AllOf fits (items t)
  all_fit Leaf h = tt
  all_fit (Fork' p here s l r) h = (h.0, all_both fits (items l) (items r) (all_fit l h.2) (all_fit r h.3))

  abbrev pub Within : ℕ → ℕ → A → Type 0
  Within low high x = (low ≤ key x) × (key x < high)

  pub in_range : (low high : ℕ) (t : Tree A S) → IsOrdered low high t → AllOf (Within low high) (items t)
  in_range low high Leaf h = tt
  in_range low high (Fork' p here s l r) h =
      let a = in_range low (middle low high) l h.6 in
      let b = in_range (middle low high) high r h.7 in (
        (h.0, h.1),
        all_both (Within low high) (items l) (items r)
            (all_map (Within low (middle low high)) (Within low high) (λ x w. (omega (arith, w.0), omega (arith, w.1, h.0, h.1))) (items l) a)
            (all_map (Within (middle low high) high) (Within low high) (λ x w. (omega (arith, w.0, h.0, h.1), w.1)) (items r) b),
      )

  pub rises : (low high : ℕ) (t : Tree A S) → IsOrdered low high t → IsRisingBy key (items t)
  rises low high Leaf h = tt
  rises low high (Fork' p here s l r) h = (
    all_both (λ y. key here < key y) (items l) (items r) h.3 h.4,
    rising_both key (middle low high) (items l) (items r) (rises low (middle low high) l h.6) (rises (middle low high) high r h.7)
        (all_map (Within low (middle low high)) (λ z. key z < middle low high) (λ z w. w.1) (items l) (in_range low (middle low high) l h.6))
        (all_map (Within (middle low high) high) (λ z. middle low high ≤ key z) (λ z w. w.0) (items r) (in_range (middle low high) high r h.7)),
  )

  -- a tree over at most 2 ^ k keys is at most k deep below its first node
  pub deep : (k low high : ℕ) (t : Tree A S) → IsOrdered low high t → high ≤ low + 2 ^ k → depth t ≤ k + 1
  deep k low high Leaf h le = omega arith
  deep zero low high (Fork' p here s Leaf Leaf) h le = omega arith
  deep zero low high (Fork' p here s (Fork' q x u l r) t) h le = absurd (omega (arith, le, h.6.0, h.6.1))
  deep zero low high (Fork' p here s Leaf (Fork' q x u l r)) h le = absurd (omega (arith, le, h.0, h.4.0, h.7.1))
  deep (suc k) low high (Fork' p here s l r) h le =
      let twice : 2 ^ suc k ≡ 2 * 2 ^ k = search arith in
      let a = deep k low (middle low high) l h.6 (omega (arith, le, twice, h.0, h.1)) in
      let b = deep k (middle low high) high r h.7 (omega (arith, le, twice, h.0, h.1)) in
      omega (arith, a, b)

  pub kept_empty : (low high : ℕ) (t : Tree A S) → items t ≡ [] → IsOrdered low high t
  kept_empty low high Leaf none = tt
  kept_empty low high (Fork' p here s l r) none = cc

  -- the first item of a tree, and the rest of it over a wider range, after whose middle all of them lie
  module _ (low high : ℕ) (t rest : Tree A S) (here : A) (tree : IsOrdered (middle low high) high t) (is : items t ≡ here ∷ items rest) where
    pub fits_first : fits here
    fits_first = (subst (AllOf fits) is (all_fit t (summarized (middle low high) high t tree))).0

    pub widened : (s : S) → low < high → IsOrdered (middle low high) high rest → tells s (here ∷ items rest) → NodeAt low high here s Leaf rest
    widened s lt kept of =
        let range = subst (AllOf (Within (middle low high) high)) is (in_range (middle low high) high t tree) in
        let rising = subst (IsRisingBy key) is (rises (middle low high) high t tree) in
        (omega (arith, range.0.0, lt), range.0.1, fits_first, tt, rising.0, of, tt, kept)

  -- the same where all of them lie before the middle
  module _ (low high : ℕ) (t rest : Tree A S) (here : A) (tree : IsOrdered low (middle low high) t) (is : items t ≡ here ∷ items rest) where
    pub fits_least : fits here
    fits_least = (subst (AllOf fits) is (all_fit t (summarized low (middle low high) t tree))).0

    pub widened_up : (s : S) → low < high → IsOrdered low (middle low high) rest → tells s (here ∷ items rest ++ []) → NodeAt low high here s rest Leaf
    widened_up s lt kept of =
        let range = subst (AllOf (Within low (middle low high))) is (in_range low (middle low high) t tree) in
        let rising = subst (IsRisingBy key) is (rises low (middle low high) t tree) in
        (range.0.0, omega (arith, range.0.1, lt), fits_least, rising.0, tt, of, kept, tt)

  module _ (low high : ℕ) (n : Node A S) (old : NodeAt low high n.here n.summary n.left n.right) where
    abbrev y : A
    y = n.here

    abbrev l : Tree A S
    l = n.left

    abbrev r : Tree A S
    r = n.right

    abbrev rest : List A
    rest = items l ++ items r

    -- what lies below the middle, and above it
    pub above : (k : ℕ) → k < middle low high → AllOf (λ z. k < key z) (items r)
    above k lt = all_map (Within (middle low high) high) (λ z. k < key z) (λ z w. omega (arith, lt, w.0)) (items r) (in_range (middle low high) high r old.7)

    pub below : (k : ℕ) → middle low high ≤ k → AllOf (λ z. key z < k) (items l)
    below k le = all_map (Within low (middle low high)) (λ z. key z < k) (λ z w. omega (arith, le, w.1)) (items l) (in_range low (middle low high) l old.6)

    all_above_here : AllOf (λ z. key y < key z) rest
    all_above_here = all_both (λ z. key y < key z) (items l) (items r) old.3 old.4

    -- another item takes the node
    pub put_here : (x : A) (s : S) → key x ≡ key y → fits x → tells s (x ∷ rest) → NodeAt low high x s l r × (x ∷ rest ≡ put_item key x (y ∷ rest))
    put_here x s same fit of =
        let t : nat_lt (key x) (key y) ≡ false = grind (arith, nat_tests, same) in
        let u : nat_lt (key y) (key x) ≡ false = grind (arith, nat_tests, same) in (
          (
            rw same old.0,
            rw same old.1,
            fit,
            rw same old.3,
            rw same old.4,
            of,
            old.6,
            old.7,
          ),
          rw (t, u) refl,
        )

    module _ (x : A) (pair : A × A) (from : low ≤ key x) (to : key x < high) (fit : fits x) (differ : key x ≢ key y) (pair_is : pair ≡ (if nat_lt (key x) (key y) then (x, y) else (y, x))) where
      -- the two by rising key, the least one below all others
      abbrev Ordered : A → A → Type 0
      Ordered a b =
          (low ≤ key a) × (key a < key b) × (key b < high)
          × AllOf (λ z. key a < key z) rest × (put_item key x (y ∷ rest) ≡ a ∷ put_item key b rest)
          × fits a × fits b

      pub in_order : Ordered pair.0 pair.1
      in_order = (elim (nat_lt (key x) (key y)) as (λ b. nat_lt (key x) (key y) ≡ b → pair ≡ (if b then (x, y) else (y, x)) → Ordered pair.0 pair.1) [
        | true ↦ λ t e.
            let lt : key x < key y = grind (arith, nat_tests, t) in
            let is : pair.0 ≡ x = ap (λ p. p.0) e in
            let is2 : pair.1 ≡ y = ap (λ p. p.1) e in
            rw (is, is2) (
              from,
              lt,
              old.1,
              all_above key (key x) (key y) rest (omega (arith, lt)) all_above_here,
              rw t (ap (λ (zs : List A). x ∷ zs) (sym (put_least key y rest all_above_here))),
              fit,
              old.2,
            )
        | false ↦ λ t e.
            let lt : key y < key x = grind (arith, nat_tests, t, differ) in
            let u : nat_lt (key y) (key x) ≡ true = grind (arith, nat_tests, lt) in
            let is : pair.0 ≡ y = ap (λ p. p.0) e in
            let is2 : pair.1 ≡ x = ap (λ p. p.1) e in
            rw (is, is2) (old.0, lt, to, all_above_here, rw (t, u) refl, old.2, fit)
      ]) refl pair_is

      abbrev IsAbove : A → Type 0
      IsAbove z = key pair.0 < key z

      pub put_left : (l2 : Tree A S) (s : S) → key pair.1 < middle low high → IsOrdered low (middle low high) l2 → items l2 ≡ put_item key pair.1 (items l) → tells s (pair.0 ∷ items l2 ++ items r)
          → NodeAt low high pair.0 s l2 r × (pair.0 ∷ (items l2 ++ items r) ≡ put_item key x (y ∷ rest))
      put_left l2 s lt tree is of =
          let e : items l2 ++ items r ≡ put_item key pair.1 rest = ap (λ (zs : List A). zs ++ items r) is ∙ sym (put_front key pair.1 (items l) (items r) (above (key pair.1) lt)) in (
            (
              in_order.0,
              omega (arith, in_order.1, in_order.2),
              in_order.5,
              subst (AllOf IsAbove) (sym is) (all_put key IsAbove pair.1 (items l) in_order.1 (all_front IsAbove (items l) (items r) in_order.3)),
              all_back IsAbove (items l) (items r) in_order.3,
              of,
              tree,
              old.7,
            ),
            ap (λ (zs : List A). pair.0 ∷ zs) e ∙ sym in_order.4,
          )

      pub put_right : (r2 : Tree A S) (s : S) → middle low high ≤ key pair.1 → IsOrdered (middle low high) high r2 → items r2 ≡ put_item key pair.1 (items r) → tells s (pair.0 ∷ items l ++ items r2)
          → NodeAt low high pair.0 s l r2 × (pair.0 ∷ (items l ++ items r2) ≡ put_item key x (y ∷ rest))
      put_right r2 s le tree is of =
          let e : items l ++ items r2 ≡ put_item key pair.1 rest = ap (λ (zs : List A). items l ++ zs) is ∙ sym (put_back key pair.1 (items l) (items r) (below (key pair.1) le)) in (
            (
              in_order.0,
              omega (arith, in_order.1, in_order.2),
              in_order.5,
              all_front IsAbove (items l) (items r) in_order.3,
              subst (AllOf IsAbove) (sym is) (all_put key IsAbove pair.1 (items r) in_order.1 (all_back IsAbove (items l) (items r) in_order.3)),
              of,
              old.6,
              tree,
            ),
            ap (λ (zs : List A). pair.0 ∷ zs) e ∙ sym in_order.4,
          )

    -- the first item of the left side comes up
    pub pop_left : (next : A) (l2 : Tree A S) (s : S) → items l ≡ next ∷ items l2 → IsOrdered low (middle low high) l2 → fits next → tells s (next ∷ items l2 ++ items r) → NodeAt low high next s l2 r
    pop_left next l2 s is tree fit of =
        let rising = subst (IsRisingBy key) is (rises low (middle low high) l old.6) in
        let range = subst (AllOf (Within low (middle low high))) is (in_range low (middle low high) l old.6) in
        (omega (arith, range.0.0), omega (arith, range.0.1, old.0, old.1), fit, rising.0, above (key next) range.0.1, of, tree, old.7)

    -- or that of the right side, if the left one is empty
    pub pop_right : (next : A) (l2 r2 : Tree A S) (s : S) → items l ≡ [] → items l2 ≡ [] → IsOrdered low (middle low high) l2 → items r ≡ next ∷ items r2 → IsOrdered (middle low high) high r2 → fits next → tells s (next ∷ items l2 ++ items r2) → NodeAt low high next s l2 r2
    pop_right next l2 r2 s none none2 tree2 is tree fit of =
        let rising = subst (IsRisingBy key) is (rises (middle low high) high r old.7) in
        let range = subst (AllOf (Within (middle low high) high)) is (in_range (middle low high) high r old.7) in
        (omega (arith, range.0.0, old.0, old.1), range.0.1, fit, subst (AllOf (λ z. key next < key z)) (sym none2) tt, rising.0, of, tree2, tree)

    module _ (f : A → A) (same : (x : A) → key (f x) ≡ key x) where
      -- the node's own item is changed
      pub change_here : (k : ℕ) → key y ≡ k → (s : S) → fits (f y) → tells s (f y ∷ rest) → NodeAt low high (f y) s l r × (f y ∷ rest ≡ change_item key f k (y ∷ rest))
      change_here k is s fit of =
          let t : nat_eq k (key y) ≡ true = grind (arith, nat_tests, is) in
          let e = same y in
          ((rw e old.0, rw e old.1, fit, rw e old.3, rw e old.4, of, old.6, old.7), rw t refl)

      still_above : (z : A) → key y < key z → key y < key (f z)
      still_above z lt = rw (same z) lt

      module _ (k : ℕ) (differ : key y ≢ k) where
        pub change_left : (l2 : Tree A S) (s : S) → k < middle low high → IsOrdered low (middle low high) l2 → items l2 ≡ change_item key f k (items l) → tells s (y ∷ items l2 ++ items r)
            → NodeAt low high y s l2 r × (y ∷ (items l2 ++ items r) ≡ change_item key f k (y ∷ rest))
        change_left l2 s lt tree is of =
            let t : nat_eq k (key y) ≡ false = grind (arith, nat_tests, differ) in (
              (old.0, old.1, old.2, subst (AllOf (λ z. key y < key z)) (sym is) (all_changed key (λ z. key y < key z) f k (items l) still_above old.3), old.4, of, tree, old.7),
              rw t (ap (λ (zs : List A). y ∷ zs) (ap (λ (zs : List A). zs ++ items r) is ∙ sym (change_front key f k (items l) (items r) (above k lt)))),
            )

        pub change_right : (r2 : Tree A S) (s : S) → middle low high ≤ k → IsOrdered (middle low high) high r2 → items r2 ≡ change_item key f k (items r) → tells s (y ∷ items l ++ items r2)
            → NodeAt low high y s l r2 × (y ∷ (items l ++ items r2) ≡ change_item key f k (y ∷ rest))
        change_right r2 s le tree is of =
            let t : nat_eq k (key y) ≡ false = grind (arith, nat_tests, differ) in (
              (old.0, old.1, old.2, old.3, subst (AllOf (λ z. key y < key z)) (sym is) (all_changed key (λ z. key y < key z) f k (items r) still_above old.4), of, old.6, tree),
              rw t (ap (λ (zs : List A). y ∷ zs) (ap (λ (zs : List A). items l ++ zs) is ∙ sym (change_back key f k (items l) (items r) (below k le)))),
            )

    module _ (k : ℕ) (differ : key y ≢ k) where
      test : nat_eq k (key y) ≡ false
      test = grind (arith, nat_tests, differ)

      pub take_left : (l2 : Tree A S) (s : S) → k < middle low high → IsOrdered low (middle low high) l2 → items l2 ≡ take_item key k (items l) → tells s (y ∷ items l2 ++ items r)
          → NodeAt low high y s l2 r × (y ∷ (items l2 ++ items r) ≡ take_item key k (y ∷ rest))
      take_left l2 s lt tree is of = (
        (old.0, old.1, old.2, subst (AllOf (λ z. key y < key z)) (sym is) (all_taken key (λ z. key y < key z) k (items l) old.3), old.4, of, tree, old.7),
        rw test (ap (λ (zs : List A). y ∷ zs) (ap (λ (zs : List A). zs ++ items r) is ∙ sym (take_front key k (items l) (items r) (above k lt)))),
      )

      pub take_right : (r2 : Tree A S) (s : S) → middle low high ≤ k → IsOrdered (middle low high) high r2 → items r2 ≡ take_item key k (items r) → tells s (y ∷ items l ++ items r2)
          → NodeAt low high y s l r2 × (y ∷ (items l ++ items r2) ≡ take_item key k (y ∷ rest))
      take_right r2 s le tree is of = (
        (old.0, old.1, old.2, old.3, subst (AllOf (λ z. key y < key z)) (sym is) (all_taken key (λ z. key y < key z) k (items r) old.4), of, old.6, tree),
        rw test (ap (λ (zs : List A). y ∷ zs) (ap (λ (zs : List A). items l ++ zs) is ∙ sym (take_back key k (items l) (items r) (below k le)))),
      )

      pub has_left : (b : Bool) → k < middle low high → b ≡ has_item key k (items l) → b ≡ has_item key k (y ∷ rest)
      has_left b lt is =
          let no = has_none_above key k (items r) (above k lt) in
          let both = has_both key k (items l) (items r) in
          rw (test, both, no) (is ∙ sym (or_false (has_item key k (items l))))
        where
          or_false : (a : Bool) → a || false ≡ a
          or_false true = refl
          or_false false = refl

      pub has_right : (b : Bool) → middle low high ≤ k → b ≡ has_item key k (items r) → b ≡ has_item key k (y ∷ rest)
      has_right b le is =
          let no = has_none_below key k (items l) (below k le) in
          let both = has_both key k (items l) (items r) in
          rw (test, both, no) is

      pub find_left : (found : Option A) → k < middle low high → found ≡ find_item key k (items l) → found ≡ find_item key k (y ∷ rest)
      find_left found lt is = let whole = find_front key k (items l) (items r) (above k lt) in rw (test, whole) is

      pub find_right : (found : Option A) → middle low high ≤ k → found ≡ find_item key k (items r) → found ≡ find_item key k (y ∷ rest)
      find_right found le is = let whole = find_back key k (items l) (items r) (below k le) in rw (test, whole) is

  -- a tree whose first node is n
  pub node_at : (low high : ℕ) (t : Tree A S) (b : Box (Node A S) Global) (n : Node A S) → t ≡ Fork b → n ≡ b.value → IsOrdered low high t → NodeAt low high n.here n.summary n.left n.right
  node_at low high t b n is same h = subst (λ (m : Node A S). NodeAt low high m.here m.summary m.left m.right) (sym same) (subst (IsOrdered low high) is h)

  pub items_at : (t : Tree A S) (b : Box (Node A S) Global) (n : Node A S) → t ≡ Fork b → n ≡ b.value → items t ≡ n.here ∷ (items n.left ++ items n.right)
  items_at t b n is same = ap items is ∙ ap (λ (m : Node A S). m.here ∷ (items m.left ++ items m.right)) (sym same)

  pub depth_at : (t : Tree A S) (b : Box (Node A S) Global) (n : Node A S) → t ≡ Fork b → n ≡ b.value → depth t ≡ max (depth n.left) (depth n.right) + 1
  depth_at t b n is same = ap depth is ∙ ap (λ (m : Node A S). max (depth m.left) (depth m.right) + 1) (sym same)

  abbrev pub ToldAt : Node A S → Type 0
  ToldAt n = fits n.here × tells n.summary (n.here ∷ items n.left ++ items n.right) × HasSummaries fits tells n.left × HasSummaries fits tells n.right

  pub told_at : (t : Tree A S) (b : Box (Node A S) Global) (n : Node A S) → t ≡ Fork b → n ≡ b.value → HasSummaries fits tells t → ToldAt n
  told_at t b n is same h = subst ToldAt (sym same) (subst (HasSummaries fits tells) is h)
