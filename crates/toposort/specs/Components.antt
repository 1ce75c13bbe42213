-- The invariant of the path-based search for strongly connected components, over its buffers b and where it stands, p.
use Rattle.std.specs.Prelude.{ℕ, suc, ◌+◌, ◌*◌, ◌-◌, ◌≤◌, ◌<◌, ◌≡◌, ◌⊎◌, Some, List, length, get_or}
use Rattle.netlist.specs.declared.Gate.{Gate}
use Rattle.toposort.specs.declared.Scan.{Scan}
use Rattle.toposort.specs.declared.Turn.{Turn}
use Rattle.toposort.specs.declared.Turn.TheVariants.{Close, Leave, Raise, Open as OpenUnseen, Merge, Meet}
use Rattle.netlist.specs.Graph.{Reads, Depends, Loop, WellFormed, Before, Ordered}
use Rattle.netlist.specs.Rule.{sources_of}
use Rattle.netlist.specs.Settle.{reads_in}
use Rattle.netlist.specs.Table.{flop_signal}
use Rattle.toposort.specs.Reading.{read_at}
use Rattle.toposort.specs.Tally.{last_mark, done_mark, tally, room}
use Rattle.toposort.specs.Search.{Search}

-- x is open
pub record Open (marks : List ℕ) (x : ℕ) : Type 0 where
  pub seen : 0 < get_or marks x 0
  pub left : get_or marks x 0 < done_mark

-- the mark of an open signal is at a place that its gate has, or past them
abbrev pub AtPlaces : (ℕ → Gate) → List ℕ → Type 0
AtPlaces g marks = (x : ℕ) → Open marks x → last_mark ≤ get_or marks x 0 + length (sources_of (g x))

-- buffers of N signals: each has an entry a signal
abbrev pub Sized : ℕ → Search → Type 0
Sized N b =
    record {
      marks : length b.marks ≡ N;
      pos : length b.pos ≡ N;
      stack : length b.stack ≡ N;
      heads : length b.heads ≡ N;
      path : length b.path ≡ N;
      order : length b.order ≡ N;
    }

-- no signal is seen
abbrev pub Unseen : List ℕ → Type 0
Unseen marks = (x : ℕ) → get_or marks x 0 ≡ 0

-- buffers of N signals, none of them seen
abbrev pub Fresh : ℕ → Search → Type 0
Fresh N b = Sized N b × Unseen b.marks

-- the first q flip-flops are listed and done, and no other signal is seen
pub record FlopsListed (q : ℕ) (marks order : List ℕ) : Type 0 where
  pub first : (i : ℕ) → i < q → get_or order i 0 ≡ flop_signal i
  pub done : (i : ℕ) → i < q → get_or marks (flop_signal i) 0 ≡ done_mark
  pub others : (x : ℕ) → (get_or marks x 0 ≡ 0) ⊎ ((i : ℕ) × (i < q) × (x ≡ flop_signal i))
  pub counted : q ≡ tally done_mark marks

-- top is the last open signal
abbrev pub IsTop : List ℕ → Scan → ℕ → Type 0
IsTop path p top = (0 < p.depth) × (get_or path (p.depth - 1) 0 ≡ top)

module _ (b : Search) (p : Scan) where
  open b use {marks, pos, stack, heads, path}
  open p use {depth, len, count, best}

  -- x is on the stack
  abbrev pub On : ℕ → Type 0
  On x = record { below : get_or pos x 0 < len; holds : get_or stack (get_or pos x 0) 0 ≡ x }

  -- x is seen, and its component is closed
  abbrev pub Closed : ℕ → Type 0
  Closed x = record { seen : 0 < get_or marks x 0; off : On x → ⊥ }

  -- place i of the stack is in the component of place j, or in an earlier one
  abbrev pub Within : ℕ → ℕ → Type 0
  Within i j = (k : ℕ) → k < count → get_or heads k 0 ≤ i → get_or heads k 0 ≤ j

  -- a read of y by x that is done, where y is on the stack: y is in no earlier component than x, and x is on a loop and counted
  abbrev pub Met : ℕ → ℕ → Type 0
  Met x y = record { on : On y; least : best ≤ x; within : Within (get_or pos x 0) (get_or pos y 0) }

  -- a read of y by x that is done
  abbrev pub Passed : ℕ → ℕ → Type 0
  Passed x y = Closed y ⊎ Met x y

  -- the components on the stack begin at open signals, the first at place 0
  abbrev pub Headed : Type 0
  Headed =
      record {
        low : (k : ℕ) → k < count → k ≤ get_or heads k 0;
        inside : (k : ℕ) → k < count → get_or heads k 0 < len;
        sorted : (i j : ℕ) → i < j → j < count → get_or heads i 0 < get_or heads j 0;
        some : 0 < len → 0 < count;
        bottom : 0 < count → get_or heads 0 0 ≡ 0;
        begun : (k : ℕ) → k < count → Before path depth (get_or stack (get_or heads k 0) 0);
      }

  -- the path has the open signals, in the order of their places on the stack
  abbrev pub Pathed : Type 0
  Pathed =
      record {
        low : (i : ℕ) → i < depth → i ≤ get_or pos (get_or path i 0) 0;
        on : (i : ℕ) → i < depth → On (get_or path i 0);
        opened : (i : ℕ) → i < depth → Open marks (get_or path i 0);
        sorted : (i j : ℕ) → i < j → j < depth → get_or pos (get_or path i 0) 0 < get_or pos (get_or path j 0) 0;
        named : (x : ℕ) → Open marks x → Before path depth x;
      }

module _ (N : ℕ) (b : Search) (p : Scan) where
  open b use {marks, pos, stack, heads}
  open p use {len, count}

  -- the stack holds seen signals, each at its place, and has room for the unseen ones
  abbrev pub Placed : Type 0
  Placed =
      record {
        at : (i : ℕ) → i < len → get_or pos (get_or stack i 0) 0 ≡ i;
        seen : (i : ℕ) → i < len → 0 < get_or marks (get_or stack i 0) 0;
        fits : len + tally 0 marks ≤ N;
      }

  -- what the choice of the next turn needs
  abbrev pub TopReady : ℕ → Type 0
  TopReady top =
      record {
        marks_sized : length marks ≡ N;
        pos_sized : length pos ≡ N;
        stack_sized : length stack ≡ N;
        heads_sized : length heads ≡ N;
        len_le : len ≤ N;
        count_le : count ≤ N;
        some : 0 < count;
        top_below : top < N;
        top_open : Open marks top;
      }

-- x is y, or depends on it
abbrev pub Reaches : (ℕ → Gate) → ℕ → ℕ → Type 0
Reaches g x y = (x ≡ y) ⊎ Depends (reads_in g) x y

-- every signal on the stack depends on y
abbrev pub Above : (ℕ → Gate) → List ℕ → Scan → ℕ → Type 0
Above g stack p y = (i : ℕ) → i < p.len → Depends (reads_in g) (get_or stack i 0) y

module _ (g : ℕ → Gate) (N : ℕ) (b : Search) (p : Scan) where
  open b use {marks, pos, stack, heads, order}
  open p use {next, depth, len, count, done, best}

  -- the order so far: its first done entries are the done signals, each after what it reads as long as no loop is known
  abbrev pub Listed : Type 0
  Listed =
      record {
        counted : done ≡ tally done_mark marks;
        finished : (i : ℕ) → i < done → get_or marks (get_or order i 0) 0 ≡ done_mark;
        named : (x : ℕ) → get_or marks x 0 ≡ done_mark → Before order done x;
        once : (i j : ℕ) → i < j → j < done → get_or order i 0 ≡ get_or order j 0 → ⊥;
        after : best ≡ N → (i y : ℕ) → i < done → Reads (reads_in g) (get_or order i 0) y → Before order i y;
      }

  -- the state of the search over N signals; `best` is the smallest signal known to be on a loop, or N
  pub record Components : Type 0 where
    pub bounded : WellFormed (reads_in g) N
    pub sized : Sized N b
    pub next_le : next ≤ N
    pub ended : next ≡ N → depth ≡ 0
    pub low : (x : ℕ) → get_or marks x 0 ≤ done_mark
    pub started : (x : ℕ) → x < next → 0 < get_or marks x 0
    pub at_places : AtPlaces g marks
    pub placed : Placed N b p
    pub headed : Headed b p
    pub pathed : Pathed b p
    -- a signal on the stack reaches those of its component and of later ones
    pub reach : (i j : ℕ) → i < len → j < len → Within b p i j → Reaches g (get_or stack i 0) (get_or stack j 0)
    pub looked : (x i y : ℕ) → On b p x → suc i < get_or marks x 0 → i < 6 → read_at g x i ≡ Some y → Passed b p x y
    pub closed : (x y : ℕ) → Closed b p x → Reads (reads_in g) x y → Closed b p y
    pub judged : (x : ℕ) → Closed b p x → Loop (reads_in g) x → best ≤ x
    pub best_le : best ≤ N
    pub best_loop : best < N → Loop (reads_in g) best
    pub listed : Listed

  -- what the mark of the top, and the signal it reads next, say
  abbrev pub Wants : ℕ → Turn → Type 0
  Wants top (Close at) = (get_or marks top 0 ≡ last_mark) × (at ≡ get_or pos top 0) × (get_or pos top 0 ≡ get_or heads (count - 1) 0)
  Wants top Leave = (get_or marks top 0 ≡ last_mark) × (get_or pos top 0 ≡ get_or heads (count - 1) 0 → ⊥)
  Wants top Raise =
      (get_or marks top 0 ≡ last_mark → ⊥) × ((i y : ℕ) → suc i ≡ get_or marks top 0 → read_at g top i ≡ Some y → Closed b p y)
  Wants top (OpenUnseen y) = (y < N) × Reads (reads_in g) top y × (get_or marks y 0 ≡ 0)
  Wants top (Merge y) = Reads (reads_in g) top y × On b p y × (get_or pos y 0 < get_or heads (count - 1) 0)
  Wants top (Meet y) =
      Reads (reads_in g) top y × On b p y × (get_or heads (count - 1) 0 ≤ get_or pos y 0)
      × (get_or marks top 0 ≡ last_mark → ⊥)
      × ((i z : ℕ) → suc i ≡ get_or marks top 0 → read_at g top i ≡ Some z → z ≡ y)

-- what the search may still do
abbrev pub remaining : ℕ → List ℕ → Scan → ℕ
remaining N marks p = 2 * room marks + p.count + (N - p.next)

-- an order keeps what it lists, and lists no less
abbrev pub Extends : List ℕ → Scan → List ℕ → Scan → Type 0
Extends old p order q = (p.done ≤ q.done) × ((i : ℕ) → i < p.done → get_or order i 0 ≡ get_or old i 0)

module _ (g : ℕ → Gate) (N : ℕ) where
  -- what a step from these marks, this order and p leaves
  abbrev pub Moved : List ℕ → List ℕ → Scan → Search → Scan → Type 0
  Moved marks order p b q =
      Components g N b q × (remaining N b.marks q < remaining N marks p) × Extends order p b.order q

  -- best is the smallest signal below N that is on a loop, or N, and then the order is topological
  pub record Least (order : List ℕ) (best : ℕ) : Type 0 where
    pub best_le : best ≤ N
    pub loops : best < N → Loop (reads_in g) best
    pub least : (y : ℕ) → y < best → Loop (reads_in g) y → ⊥
    pub ordered : best ≡ N → Ordered (reads_in g) N order
