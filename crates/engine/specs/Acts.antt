-- The calls on a table, one by one: when each is refused, and what it does.
use Rattle.std.specs.Prelude.{ℕ, ◌+◌, ◌-◌, max, Bool, true, false, cond, not, ◌&&◌, List, [], ◌∷◌, Some, Option, ◌==◌, nat_le, nat_lt}
use Rattle.tokens.specs.Codes.{is_code, all_codes}
use Rattle.tokens.specs.Classes.{is_list}
use Rattle.tokens.specs.Limits.{top_level}
use Rattle.tokens.specs.declared.group.Group.{Group}
use Rattle.tokens.specs.declared.group.GroupKind.{GroupKind}
use Rattle.tokens.specs.declared.refusal.Refusal.TheVariants.{OutOfBounds, NoPlace, OtherGroup, TooDeep, NoWords, NoEntry, NoNodes}
use Rattle.values.specs.Readings.{Reading, tokens, nil, cost}
use Rattle.values.specs.Ops.{Ops, list_stands}
use Rattle.stores.specs.Cells.{cell}
use Rattle.stores.specs.Stores.{full, writes}
use Rattle.stores.specs.declared.cell.Cell.{Cell}
use Rattle.stores.specs.declared.fault.StoreFault.TheVariants.{Beyond, Full}
use Rattle.save_stack.specs.Entries.{held_in}
use Rattle.save_stack.specs.Stacks.{StackModel, is_full, pushed}
use Rattle.save_stack.specs.declared.entry.Entry.{Entry}
use Rattle.save_stack.specs.declared.entry.Entry.TheVariants.{Saved, Held, Boundary}
use Rattle.engine.specs.declared.demand.Demand.{Demand}
use Rattle.engine.specs.declared.fault.Cause.{Cause}
use Rattle.engine.specs.declared.fault.Cause.TheVariants.{Store, Place, Call}
use Rattle.engine.specs.Faults.{first_of, is_none}
use Rattle.engine.specs.Nestings.{in_group}
use Rattle.engine.specs.Tables.{Table}

-- what is assigned: a value, or a list of tokens that is made, as the list b
pub data Source (V : Type 0) : Type 0 where
  given : V → Source V
  fresh : List ℕ → ℕ → Source V

-- one call on a table. `closes` keeps the tokens that the group held back, `drops` does not
pub data Act (V : Type 0) : Type 0 where
  opens : Group → Act V
  closes : GroupKind → ℕ → Act V
  drops : Act V
  sets : Bool → ℕ → Source V → Act V
  holds : ℕ → Act V

-- how many groups are closed from one level down to another, which is inside the last of them; no group is outside all groups
abbrev pub unwound_to : ℕ → ℕ → ℕ
unwound_to l level = (level + 1) - max l 2

module _ {V M : Type 0} (k : Ops V M) where
  -- the value that a source gives
  abbrev pub value_of : Source V → V
  value_of (given v) = v
  value_of (fresh ts b) = k.made (tokens ts) b

  -- what it reads as at a place
  abbrev pub reading_of : Source V → M → ℕ → Reading
  reading_of (given v) m p = k.reads v m p
  reading_of (fresh ts b) m p = tokens ts

  -- the pool once it is made
  abbrev pub pool_of : Source V → M → M
  pool_of (given v) m = m
  pool_of (fresh ts b) m = k.makes (tokens ts) b m

  -- a new list is none of those that are there
  abbrev pub chosen : Source V → M → Bool
  chosen (given v) m = true
  chosen (fresh ts b) m = not (k.there m b)

  -- what an assignment to a place asks of a table
  abbrev pub demand_of : Source V → M → ℕ → Demand
  demand_of (given v) m p = record {
    bounded = k.bounded v;
    fits = k.register p && (k.fits v p && list_stands k v m);
    affordable = true;
    zero = k.is_zero v;
  }
  demand_of (fresh ts b) m p = record {
    bounded = all_codes ts;
    fits = k.register p && is_list (k.class_of p);
    affordable = nat_le (cost (tokens ts)) (k.free m);
    zero = nil (tokens ts);
  }

  -- the level at which a value is put
  abbrev pub level_of : Bool → Table V M → ℕ
  level_of global t = cond global 1 t.level

  -- whether an assignment saves the old cell: it is local, in a group, and the old cell is of another level
  abbrev pub saving : Bool → Table V M → ℕ → Bool
  saving global t p = not global && (nat_lt 1 t.level && not ((t.store.cells p).level == t.level))

  -- why an assignment is refused, in order
  abbrev pub assign_checks : Demand → Bool → Table V M → ℕ → List (Bool × Cause)
  assign_checks d global t p =
      (not d.bounded, Place OutOfBounds p)
      ∷ (not (nat_lt p t.store.reach), Store (Beyond p))
      ∷ (not d.fits, Place NoPlace p)
      ∷ (saving global t p && is_full t.saves, Place NoEntry p)
      ∷ (not d.affordable, Place NoNodes p)
      ∷ (full k.is_zero t.store p (d.zero && level_of global t == 1), Store (Full p)) ∷ []

  -- why a call is refused, in order
  abbrev pub checks : Act V → Table V M → List (Bool × Cause)
  checks (opens g) t = (nat_le top_level t.level, Call TooDeep) ∷ (is_full t.saves, Call NoEntry) ∷ []
  checks (closes kind l) t =
      (not (nat_lt 1 t.level && (in_group t.group kind && l == t.level)), Call OtherGroup)
      ∷ (nat_lt t.pending.room (held_in t.saves.held), Call NoWords) ∷ []
  checks drops t = (not (nat_lt 1 t.level), Call OtherGroup) ∷ []
  checks (sets global p s) t = assign_checks (demand_of s t.pool p) global t p
  checks (holds c) t = (not (is_code c), Call OutOfBounds) ∷ (nat_lt 1 t.level && is_full t.saves, Call NoEntry) ∷ []

  -- the first of these that applies
  abbrev pub cause_of : Act V → Table V M → Option Cause
  cause_of a t = first_of (checks a t)

  -- a group is opened: a boundary keeps the outer one
  abbrev pub opened : Table V M → Group → Table V M
  opened t g = record {
    store = t.store;
    pool = t.pool;
    level = t.level + 1;
    group = Some g;
    saves = pushed t.saves (Boundary t.group);
    pending = t.pending;
  }

  -- a value is in its place. Its use is taken first; then the old cell is saved, or its use is dropped
  abbrev pub put_in : Bool → Bool → Table V M → ℕ → Source V → Table V M
  put_in save global t p s = record {
    store = writes k.is_zero t.store p (cell (value_of s) (level_of global t));
    pool = cond save (k.taken (value_of s) (pool_of s t.pool)) (k.dropped (t.store.cells p).value (k.taken (value_of s) (pool_of s t.pool)));
    level = t.level;
    group = t.group;
    saves = cond save (pushed t.saves (Saved p (t.store.cells p))) t.saves;
    pending = t.pending;
  }

  -- an assignment
  abbrev pub assigned : Bool → Table V M → ℕ → Source V → Table V M
  assigned global t p s = put_in (saving global t p) global t p s

  -- a token is held back, if there is a group
  abbrev pub held_back : Bool → Table V M → ℕ → Table V M
  held_back inside t c = record {
    store = t.store;
    pool = t.pool;
    level = t.level;
    group = t.group;
    saves = cond inside (pushed t.saves (Held c)) t.saves;
    pending = t.pending;
  }

  -- the stack once its newest entry is off, with what is below it
  abbrev pub popped : Table V M → List (Entry V) → StackModel (Entry V)
  popped t es = record { held = es; room = t.saves.room + 1 }

  -- a saved cell is off the stack: it is written back, unless the present one is of level 1; what does not stay drops its use
  abbrev pub unsaved : Bool → Bool → Table V M → ℕ → Cell V → List (Entry V) → Table V M
  unsaved below stays t p c es = record {
    store = cond stays t.store (writes k.is_zero t.store p c);
    pool = cond below (k.dropped (cond stays c.value (t.store.cells p).value) t.pool) t.pool;
    level = t.level;
    group = t.group;
    saves = popped t es;
    pending = t.pending;
  }

  -- a held token is off the stack: on top of pending, or dropped
  abbrev pub unheld : Bool → Table V M → ℕ → List (Entry V) → Table V M
  unheld keep t c es = record {
    store = t.store;
    pool = t.pool;
    level = t.level;
    group = t.group;
    saves = popped t es;
    pending = cond keep (pushed t.pending c) t.pending;
  }

  -- a group is left: the outer one is the current one again
  abbrev pub left : Table V M → Option Group → StackModel (Entry V) → Table V M
  left t g e = record { store = t.store; pool = t.pool; level = t.level - 1; group = g; saves = e; pending = t.pending }

  -- whether the cell at a place is of level 1, and so stays when a saved one comes off the stack
  abbrev pub staying : Table V M → ℕ → Bool
  staying t p = (t.store.cells p).level == 1

  -- the entries are popped, newest first, up to the boundary
  abbrev pub pops : Bool → List (Entry V) → Table V M → Table V M
  pops keep [] t = left t t.group t.saves
  pops keep (Saved p c ∷ es) t = pops keep es (unsaved (nat_lt p t.store.reach) (staying t p) t p c es)
  pops keep (Held c ∷ es) t = pops keep es (unheld keep t c es)
  pops keep (Boundary g ∷ es) t = left t g (popped t es)

  -- what a call does where it is not refused
  abbrev pub done : Act V → Table V M → Table V M
  done (opens g) t = opened t g
  done (closes kind l) t = pops true t.saves.held t
  done drops t = pops false t.saves.held t
  done (sets global p s) t = assigned global t p s
  done (holds c) t = held_back (nat_lt 1 t.level) t c

  -- the list that an assignment makes is new
  abbrev pub picked : Act V → Table V M → Bool
  picked (opens g) t = true
  picked (closes kind l) t = true
  picked drops t = true
  picked (sets global p s) t = chosen s t.pool
  picked (holds c) t = true

  -- whether a call is carried out
  abbrev pub passes : Act V → Table V M → Bool
  passes a t = is_none (cause_of a t) && picked a t

  -- a call: what is refused leaves the table as it is
  abbrev pub tried : Act V → Table V M → Table V M
  tried a t = cond (passes a t) (done a t) t

  -- one call after the other
  abbrev pub after : List (Act V) → Table V M → Table V M
  after [] t = t
  after (a ∷ xs) t = after xs (tried a t)
