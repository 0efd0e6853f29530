-- What a consumer is, given its life.
--
-- A consumer is what its life has made of it: the set-up of Life.antt, and a count of lines. `StandsFor` says just
-- this, so a user needs no part of it: `Consumer::new` gives it for the empty life, `apply` and `offer` for a life one
-- item longer.
--
-- Why these parts. A reply is defined by the life alone (Reply.antt), and computing it anew from the life would take
-- longer with each line. So a consumer keeps the answers to what a reply or a firing asks of the life: the options,
-- the accepted clauses, their ECBs and the aggregations that they use for `enable` and `agg`, the count of lines for
-- the quota, and, from `go` on, the rows of ECBs by probe for firings, what each clause gives to aggregations, the number
-- of seen firings, whether and why tracing ended, each processor's buffer, errors, drops and store of aggregations, the
-- thread-local variables, and the speculations.
--
-- How the proof goes. `draft` reads a consumer that stands for a life and proves `IsDraftOf`: its reply is the
-- definition's, and its change is the one that the line makes. `apply` makes that change, and `offer` takes a seen
-- firing. A line that has no effect leaves the set-up as it is, so the consumer keeps it with nothing to show; each
-- other proof shows the one part that changes: an `option` sets one, an `enable` adds a program, a `go` begins tracing,
-- a `snap` swaps a buffer, a `trunc` truncates each store, a firing adds takings, each after what the one before it made
-- of everything, and where tracing ends, so does END.
use Rattle.std.specs.Prelude.{◌≡◌, false, List}
use Rattle.dt_cred.specs.declared.account.Account.{Account}
use Rattle.dt_machine.specs.Registry.{Registry}
use Rattle.dt_consumer.specs.Keeps.{Keeps}
use Rattle.dt_life.specs.Life.{Item, lines, is_over, set_up}
use Rattle.dt_consumer.specs.declared.consumer.Consumer.{Consumer}

module _ (account : Account) (registry : Registry) where
  -- A consumer stands for its life.
  pub record StandsFor (consumer : Consumer) (life : List Item) : Type 0 where
    pub keeps : Keeps account registry (set_up account registry life) consumer
    pub counted : consumer.lines ≡ lines life

  -- A consumer may ask a line more: it stands for a life that has lines left.
  pub record MayAsk (consumer : Consumer) (life : List Item) : Type 0 where
    pub stands : StandsFor consumer life
    pub in_quota : is_over life ≡ false
