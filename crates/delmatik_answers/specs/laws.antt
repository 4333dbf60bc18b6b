pub mod Generation
