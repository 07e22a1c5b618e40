-- What request P10 says of the order, as one statement on the divisions of a site for k ranks. Theorem `ordered` of proofs/OrderLaws.antt: it holds on
-- all sound rows. Assumes nothing.
use Rattle.std.specs.Prelude.{ℕ, ◌<◌, ◌≡◌, List, map, ◌⊎◌, length}
use Rattle.links.specs.Owners.{from_owners}
use Rattle.compare.specs.declared.order.Order.TheVariants.{Same, First, Second}
use Rattle.compare.specs.Order.{order_of, exchange, renamed}

-- a renaming of k ranks: it stays below k and takes no two ranks to one
pub record Renaming (k : ℕ) (f : ℕ → ℕ) : Type 0 where
  pub below : (i : ℕ) → i < k → f i < k
  pub apart : (i j : ℕ) → i < k → j < k → f i ≡ f j → i ≡ j

-- a "renaming of crews" that "turns one into the other"
pub record Renames (k : ℕ) (f : ℕ → ℕ) (first second : List ℕ) : Type 0 where
  pub renaming : Renaming k f
  pub turns : map f first ≡ second

-- a division of a site for k ranks
pub record Division (rows : List (List ℕ)) (k : ℕ) (owners : List ℕ) : Type 0 where
  pub sized : length owners ≡ length rows
  pub own : from_owners k owners ≡ 0

pub record Ordered (rows : List (List ℕ)) (k : ℕ) : Type 0 where
  -- "Two divisions are called the same exactly when some renaming of crews turns one into the other, and that renaming is returned": the one that is
  -- returned does; any that does shows that they are the same, and there is no other
  pub same-renames : (a b : List ℕ) → Division rows k a → Division rows k b → order_of rows a b ≡ Same → Renames k (renamed a b) a b
  pub renames-same : (a b : List ℕ) → Division rows k a → (f : ℕ → ℕ) → Renames k f a b → order_of rows a b ≡ Same
  pub renames-once : (a b : List ℕ) → Division rows k a → (f : ℕ → ℕ) → Renames k f a b → (i : ℕ) → i < k → f i ≡ renamed a b i
  -- "The order is total on divisions up to renaming": of two divisions one comes first, or they are the same; exchanged, they are told the other way
  -- round; what comes before another comes before all that come after it;
  pub total : (a b : List ℕ) → (order_of rows a b ≡ Same) ⊎ ((order_of rows a b ≡ First) ⊎ (order_of rows a b ≡ Second))
  pub exchanged : (a b : List ℕ) → order_of rows b a ≡ exchange (order_of rows a b)
  pub chain : (a b c : List ℕ) → order_of rows a b ≡ First → order_of rows b c ≡ First → order_of rows a c ≡ First
  -- and a renaming of either changes nothing
  pub renamed-first : (a a' b : List ℕ) → Division rows k a → (f : ℕ → ℕ) → Renames k f a a' → order_of rows a' b ≡ order_of rows a b
  pub renamed-second : (a b b' : List ℕ) → Division rows k b → (f : ℕ → ℕ) → Renames k f b b' → order_of rows a b' ≡ order_of rows a b
