pub mod TicketLaws
