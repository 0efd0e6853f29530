-- What a session is served, over any source and any sink.

-- What is promised.

pub mod Served
-- Private to the proofs: how a service goes on, line by line. No promise of a call names it.

pub mod Talk
